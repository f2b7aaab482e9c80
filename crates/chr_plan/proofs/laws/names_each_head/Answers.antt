use Rattle.chr_plan.proofs.OnePlan.{names_each_fact}
use Rattle.chr_plan.proofs.laws.names_each_head.Goals as goal

pub returns : goal.returns
returns c = names_each_fact
