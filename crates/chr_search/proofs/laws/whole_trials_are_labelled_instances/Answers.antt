use Rattle.chr_search.proofs.Labelled.{whole_labelled}
use Rattle.chr_search.proofs.laws.whole_trials_are_labelled_instances.Goals as goal

pub returns : goal.returns
returns c = whole_labelled
