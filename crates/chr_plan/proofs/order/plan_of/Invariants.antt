use Rattle.std.proofs.Common.{◌-◌, false, length, slice_index_or}
use Rattle.chr_plan.specs.Orders.{heads_of}
use Rattle.chr_plan.proofs.Planning.{Planning}
use Rattle.chr_plan.proofs.order.plan_of.Given as goal

abbrev pub invariant-loop-step : goal.invariant-loop-step
invariant-loop-step g l = Planning (heads_of l.rule) l.head (λ x. slice_index_or l.bound x false) l.order.items

abbrev pub decreases-loop-step : goal.decreases-loop-step
decreases-loop-step g l = length (heads_of l.rule) - length l.order.items
