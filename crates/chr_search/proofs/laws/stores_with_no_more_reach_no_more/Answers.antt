use Rattle.chr_search.proofs.Shrinking.{trial_shrunk, reach_shrunk, removed_no_more, inserted_no_more}
use Rattle.chr_search.proofs.laws.stores_with_no_more_reach_no_more.Goals as goal

pub returns : goal.returns
returns c = record { trials = trial_shrunk; reach = reach_shrunk; removing = removed_no_more; inserting = inserted_no_more }
