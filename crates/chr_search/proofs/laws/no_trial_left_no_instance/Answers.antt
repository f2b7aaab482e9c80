use Rattle.chr_search.proofs.Searching.{none_youngest}
use Rattle.chr_search.proofs.laws.no_trial_left_no_instance.Goals as goal

pub returns : goal.returns
returns c = none_youngest
