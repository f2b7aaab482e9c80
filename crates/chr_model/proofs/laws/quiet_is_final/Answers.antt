use Rattle.chr_model.specs.Programs.{Instances}
use Rattle.chr_model.proofs.Quiet.{quiet_final}
use Rattle.chr_model.proofs.Programs.{program_removes}
use Rattle.chr_model.proofs.laws.quiet_is_final.Goals as goal

pub returns : goal.returns
returns c = λ v rules. quiet_final v (Instances rules) (program_removes rules)
