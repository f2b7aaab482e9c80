use Rattle.chr_causes.proofs.OneOrigin.{one_origin}
use Rattle.chr_causes.proofs.laws.label_has_one_origin.Goals as goal

pub returns : goal.returns
returns c = one_origin
