use Rattle.std.proofs.Common.{◌≡◌}
use Rattle.std.specs.Vec.{vec_capacity}
use Rattle.chr_tickets.proofs.Ends.{Moves}
use Rattle.chr_tickets.proofs.slots.let_go.Given as goal

abbrev pub invariant-loop-at : goal.invariant-loop-at
invariant-loop-at g l = record {
  moves : Moves l.gone l.at l.fn.slots.items l.slots.items;
  capacity : vec_capacity l.slots ≡ vec_capacity l.fn.slots;
}
