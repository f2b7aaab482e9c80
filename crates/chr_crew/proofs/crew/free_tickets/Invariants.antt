use Rattle.chr_crew.proofs.Free.{AreFreeBelow}
use Rattle.chr_crew.proofs.crew.free_tickets.Given as goal

abbrev pub invariant-loop-ticket : goal.invariant-loop-ticket
invariant-loop-ticket g l = AreFreeBelow l.book.tickets l.ticket l.free.items
