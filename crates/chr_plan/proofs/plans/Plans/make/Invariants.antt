use Rattle.std.proofs.Common.{length, map}
use Rattle.chr_plan.specs.Plans.{AreRows, in_rows}
use Rattle.chr_plan.proofs.Made.{PlansSoFar}
use Rattle.chr_plan.proofs.plans.Plans.make.Given as goal

abbrev pub invariant-loop-rule : goal.invariant-loop-rule
invariant-loop-rule g l = record {
  rows : AreRows l.counts.items (length l.orders.items);
  plans : PlansSoFar l.program l.rule-index (in_rows l.counts.items (map (λ order. order.items) l.orders.items));
}
