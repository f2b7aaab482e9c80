use Rattle.std.proofs.Common.{◌≡◌, take}
use Rattle.chr_store.proofs.Table.{table_of}
use Rattle.chr_store.proofs.atoms.Atoms.copy.Given as goal

abbrev pub invariant-loop-slot : goal.invariant-loop-slot
invariant-loop-slot g l = l.made ≡ table_of l.self-inside.held.items (take l.slot-index l.slot-items)
