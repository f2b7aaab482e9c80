use Rattle.chr_plan.specs.Orders.{heads_of}
use Rattle.chr_plan.proofs.Next.{Passed}
use Rattle.chr_plan.proofs.order.next_step.Given as goal

abbrev pub invariant-loop-at : goal.invariant-loop-at
invariant-loop-at g l = Passed (heads_of l.rule) l.before l.at l.first
