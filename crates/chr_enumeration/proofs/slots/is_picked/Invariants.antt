use Rattle.std.proofs.Common.{◌≡◌, drop}
use Rattle.chr_model.specs.Stores.{among, labels}
use Rattle.chr_enumeration.specs.Picks.{picks, picked}
use Rattle.chr_enumeration.proofs.slots.is_picked.Given as goal

abbrev pub invariant-loop-slot : goal.invariant-loop-slot
invariant-loop-slot g l = among (labels (picked (picks (drop l.slot-index l.slots)))) l.label ≡ among (labels (picked (picks l.slots))) l.label
