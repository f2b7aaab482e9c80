use Rattle.chr_causes.proofs.OneOrigin.{leaf_posted}
use Rattle.chr_causes.proofs.laws.leaves_were_posted.Goals as goal

pub returns : goal.returns
returns c = leaf_posted
