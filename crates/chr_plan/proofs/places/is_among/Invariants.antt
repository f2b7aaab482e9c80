use Rattle.std.proofs.Common.{◌≡◌, false, take}
use Rattle.std.specs.List.{list_any}
use Rattle.chr_plan.specs.Places.{same_place}
use Rattle.chr_plan.proofs.places.is_among.Given as goal

abbrev pub invariant-loop-p : goal.invariant-loop-p
invariant-loop-p l = list_any (λ p. same_place p (l.pred, l.place)) (take l.p-index l.places) ≡ false
