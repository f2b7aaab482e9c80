use Rattle.std.proofs.Common.{◌≡◌, ◌+◌, ◌≤◌, length}
use Rattle.chr_store.specs.Table.{entries_from, held_in}
use Rattle.chr_store.specs.Blocks.{AreEmptyAtNone}
use Rattle.chr_store.proofs.atoms.ConstraintsIterator.next.Given as goal

-- labels without an atom alone were passed over
abbrev pub invariant-loop-slot : goal.invariant-loop-slot
invariant-loop-slot g l = record {
  within : l.self-inside.label + length l.self-inside.slots.now ≤ 4294967296;
  left : entries_from l.self-inside.label (held_in l.self-inside.held.now l.self-inside.slots.now) ≡ l.fn.self;
  empty : AreEmptyAtNone l.self-inside.label (held_in l.self-inside.held.now l.self-inside.slots.now) l.self-inside.counts.now;
}

abbrev pub decreases-loop-slot : goal.decreases-loop-slot
decreases-loop-slot g l = length l.self-inside.slots.now
