use Rattle.chr_model.specs.Programs.{Instances}
use Rattle.chr_model.proofs.Fixed.{never_both}
use Rattle.chr_model.proofs.laws.firing_is_one_of_two.Goals as goal

pub returns : goal.returns
returns c = λ rules. never_both (Instances rules)
