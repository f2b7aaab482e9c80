use Rattle.chr_run_calls.proofs.Made.{rounds_move, starts_move, fewer_rounds_move, starts_fewer_move}
use Rattle.chr_run_calls.proofs.laws.no_round_moves_a_search_back.Goals as goal

pub returns-clause-makes : goal.returns-clause-makes
returns-clause-makes c = rounds_move

pub returns-clause-starts : goal.returns-clause-starts
returns-clause-starts c = starts_move

pub returns-clause-makes_fewer : goal.returns-clause-makes_fewer
returns-clause-makes_fewer c = fewer_rounds_move

pub returns-clause-starts_fewer : goal.returns-clause-starts_fewer
returns-clause-starts_fewer c = starts_fewer_move
