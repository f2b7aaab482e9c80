use Rattle.std.proofs.Common.{take}
use Rattle.chr_rule.specs.Rules.{heads_of, head_in}
use Rattle.chr_plan.specs.Places.{key_place, for_each}
use Rattle.chr_plan.proofs.Once.{Added}
use Rattle.chr_plan.proofs.places.add_order.Given as goal

abbrev pub invariant-loop-step : goal.invariant-loop-step
invariant-loop-step g l = Added (for_each (λ s. key_place (head_in (heads_of l.rule) s.head) s.key) (take l.step-index l.order)) l.initial.places.items l.places.items
