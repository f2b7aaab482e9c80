use Rattle.chr_plan.specs.Plans.{IsRowOf}
use Rattle.chr_plan.proofs.plans.add_rule.Given as goal

abbrev pub invariant-loop-at : goal.invariant-loop-at
invariant-loop-at g l = IsRowOf (λ order. order.items) l.rule l.at l.initial.orders.items l.orders.items
