use Rattle.chr_run_calls.proofs.Made.{whole_moves, cut_moves}
use Rattle.chr_run_calls.proofs.laws.no_run_of_one_seat_moves_a_search_back.Goals as goal

pub returns-clause-whole : goal.returns-clause-whole
returns-clause-whole c = whole_moves

pub returns-clause-cut_short : goal.returns-clause-cut_short
returns-clause-cut_short c = cut_moves
