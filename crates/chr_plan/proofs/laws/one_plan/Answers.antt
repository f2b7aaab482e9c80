use Rattle.chr_plan.proofs.OnePlan.{one_plan_fact}
use Rattle.chr_plan.proofs.laws.one_plan.Goals as goal

pub returns : goal.returns
returns c = one_plan_fact
