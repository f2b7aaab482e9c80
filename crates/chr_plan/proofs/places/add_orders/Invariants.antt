use Rattle.std.proofs.Common.{take}
use Rattle.chr_rule.specs.Rules.{heads_of}
use Rattle.chr_plan.specs.Places.{order_places, for_each}
use Rattle.chr_plan.proofs.Once.{Added}
use Rattle.chr_plan.proofs.places.add_orders.Given as goal

abbrev pub invariant-loop-order : goal.invariant-loop-order
invariant-loop-order g l = Added (for_each (λ o. order_places (heads_of l.rule) o.items) (take l.order-index l.orders)) l.initial.places.items l.places.items
