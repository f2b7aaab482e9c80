use Rattle.std.proofs.Common.{◌+◌}
use Rattle.chr_calls.specs.Tickets.{Ticket}
use Rattle.chr_tickets.proofs.Ends.{NonePassBelow}
use Rattle.chr_tickets.proofs.tickets.Tickets.first_stray.Given as goal

abbrev pub invariant-loop-at : goal.invariant-loop-at
invariant-loop-at g l = NonePassBelow (λ (x : Ticket). x.stray) l.self (l.first + l.at)
