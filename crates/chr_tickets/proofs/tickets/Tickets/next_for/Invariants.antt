use Rattle.std.proofs.Common.{◌+◌}
use Rattle.chr_tickets.proofs.Ends.{NonePassBelow, free}
use Rattle.chr_tickets.proofs.tickets.Tickets.next_for.Given as goal

abbrev pub invariant-loop-at : goal.invariant-loop-at
invariant-loop-at g l = NonePassBelow (free l.seat) l.self (l.first + l.at)
