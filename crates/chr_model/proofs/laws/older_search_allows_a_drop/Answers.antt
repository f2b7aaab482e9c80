use Rattle.chr_model.specs.Programs.{Instances}
use Rattle.chr_model.proofs.Youngest.{older_done}
use Rattle.chr_model.proofs.laws.older_search_allows_a_drop.Goals as goal

pub returns : goal.returns
returns c = λ rules. older_done (Instances rules)
