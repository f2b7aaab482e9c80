use Rattle.chr_limits.proofs.Trees.{grown, within}
use Rattle.chr_limits.proofs.laws.terms_within_limits.Goals as goal

pub returns : goal.returns
returns c = record { trees = grown; limits = within }
