use Rattle.chr_run_calls.proofs.Made.{list_moves}
use Rattle.chr_run_calls.proofs.laws.no_list_moves_a_search_back.Goals as goal

pub returns : goal.returns
returns c = list_moves
