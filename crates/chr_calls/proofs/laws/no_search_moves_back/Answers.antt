use Rattle.chr_calls.proofs.Headlines.{call_moves, run_moves}
use Rattle.chr_calls.proofs.laws.no_search_moves_back.Goals as goal

pub returns-clause-calls : goal.returns-clause-calls
returns-clause-calls c = call_moves

pub returns-clause-runs : goal.returns-clause-runs
returns-clause-runs c = run_moves
