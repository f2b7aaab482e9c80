use Rattle.std.proofs.Common.{◌≤◌, length, map, take}
use Rattle.chr_rule.specs.Parts.{member}
use Rattle.chr_guard.specs.Bindings.{bound_at}
use Rattle.chr_guard.specs.Instances.{AreMadeUnder, added}
use Rattle.chr_guard.proofs.body.added_atoms.Given as goal

abbrev pub invariant-loop-item : goal.invariant-loop-item
invariant-loop-item g l = record { items : AreMadeUnder (bound_at l.binding) (added (map member (take l.item-index l.item-items))) l.atoms.items; few : length l.atoms.items ≤ l.item-index }
