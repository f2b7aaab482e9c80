use Rattle.std.proofs.Common.{◌≡◌, ◌≤◌, ◌++◌, length, drop}
use Rattle.chr_model.specs.Stores.{labels}
use Rattle.chr_enumeration.specs.Picks.{picks, picked}
use Rattle.chr_enumeration.proofs.slots.labels_of.Given as goal

abbrev pub invariant-loop-slot : goal.invariant-loop-slot
invariant-loop-slot g l = record { items : l.found.items ++ labels (picked (picks (drop l.slot-index l.slots))) ≡ labels (picked (picks l.slots)); few : length l.found.items ≤ l.slot-index }
