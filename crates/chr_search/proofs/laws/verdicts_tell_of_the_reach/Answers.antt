use Rattle.chr_search.proofs.Outcomes.{was_trial, part_none, misfit_none, gone_none}
use Rattle.chr_search.proofs.laws.verdicts_tell_of_the_reach.Goals as goal

pub returns : goal.returns
returns c = record { was = was_trial; part = part_none; misfit = misfit_none; gone = gone_none }
