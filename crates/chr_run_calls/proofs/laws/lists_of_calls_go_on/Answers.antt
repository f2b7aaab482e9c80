use Rattle.chr_run_calls.proofs.Made.{list_goes_on}
use Rattle.chr_run_calls.proofs.laws.lists_of_calls_go_on.Goals as goal

pub returns : goal.returns
returns c = list_goes_on
