use Rattle.chr_limits.proofs.Standing.{stands, passes}
use Rattle.chr_limits.proofs.laws.rules_within_limits.Goals as goal

pub returns : goal.returns
returns c = λ full r. (stands full r, passes full r)
