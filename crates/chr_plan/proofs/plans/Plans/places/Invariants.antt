use Rattle.std.proofs.Common.{◌≡◌, take}
use Rattle.chr_plan.specs.Places.{keys_met, once}
use Rattle.chr_plan.proofs.plans.Plans.places.Given as goal

abbrev pub invariant-loop-at : goal.invariant-loop-at
invariant-loop-at g l = l.places.items ≡ once (keys_met (take l.at l.program) (take l.at l.self))
