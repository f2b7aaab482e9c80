use Rattle.chr_search.proofs.PlainTrials.{admissible_trial, trial_admissible}
use Rattle.chr_search.proofs.laws.admissible_trials_grow.Goals as goal

pub returns : goal.returns
returns c = λ s ps r h labels. (admissible_trial s ps r h labels, trial_admissible s r h labels)
