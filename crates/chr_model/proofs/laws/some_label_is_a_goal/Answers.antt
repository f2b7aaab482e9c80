use Rattle.chr_model.specs.Programs.{Instances}
use Rattle.chr_model.proofs.Quiet.{Lawful-guarded}
use Rattle.chr_model.proofs.Programs.{program_removes}
use Rattle.chr_model.proofs.laws.some_label_is_a_goal.Goals as goal

pub returns : goal.returns
returns c = λ v rules. Lawful-guarded v (Instances rules) (program_removes rules)
