use Rattle.chr_plan.proofs.Lists.{nothing}
use Rattle.chr_plan.proofs.order.nothing_bound.Goals as goal

pub returns : goal.returns
returns c = λ x. nothing 256 x
