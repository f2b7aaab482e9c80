use Rattle.chr_causes.proofs.OneOrigin.{head_below}
use Rattle.chr_causes.proofs.laws.heads_have_lower_labels.Goals as goal

pub returns : goal.returns
returns c = head_below
