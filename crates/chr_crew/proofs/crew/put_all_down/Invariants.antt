use Rattle.std.specs.Prelude.{◌≡◌, ℕ, ◌<◌, ◌≤◌, length}
use Rattle.chr_calls.specs.Tickets.{IsNotHeld}
use Rattle.chr_crew.proofs.crew.put_all_down.Given as goal

abbrev pub invariant-loop-ticket : goal.invariant-loop-ticket
invariant-loop-ticket g l = record {
  none : (t seat : ℕ) → t < l.ticket → 1 ≤ seat → seat ≤ l.workers → IsNotHeld l.book.tickets seat t;
  count : length l.book.tickets ≡ length l.initial.book.tickets;
  log : l.book.log ≡ l.initial.book.log;
}
