use Rattle.chr_plan.proofs.OnePlan.{each_next_fact}
use Rattle.chr_plan.proofs.laws.each_step_is_next.Goals as goal

pub returns : goal.returns
returns c = each_next_fact
