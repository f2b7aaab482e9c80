use Rattle.std.proofs.Common.{◌≡◌, ◌+◌, ◌≤◌, length}
use Rattle.chr_partners.specs.Atoms.{atoms_from, held_from}
use Rattle.chr_partners.proofs.atoms.ConstraintsIterator.next.Given as goal

-- labels without an atom alone were passed over
abbrev pub invariant-loop-slot : goal.invariant-loop-slot
invariant-loop-slot g l = record {
  within : l.self-inside.label + length l.self-inside.slots.now ≤ 4294967296;
  left : atoms_from l.self-inside.label (held_from l.self-inside.held.now l.self-inside.label l.self-inside.slots.now) ≡ l.fn.self;
}

abbrev pub decreases-loop-slot : goal.decreases-loop-slot
decreases-loop-slot g l = length l.self-inside.slots.now
