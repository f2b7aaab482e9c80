use Rattle.chr_run_calls.proofs.Made.{rounds_calls, starts_calls, fewer_calls, starts_fewer_calls}
use Rattle.chr_run_calls.proofs.laws.rounds_are_lists_of_calls.Goals as goal

pub returns-clause-makes : goal.returns-clause-makes
returns-clause-makes c = rounds_calls

pub returns-clause-starts : goal.returns-clause-starts
returns-clause-starts c = starts_calls

pub returns-clause-makes_fewer : goal.returns-clause-makes_fewer
returns-clause-makes_fewer c = fewer_calls

pub returns-clause-starts_fewer : goal.returns-clause-starts_fewer
returns-clause-starts_fewer c = starts_fewer_calls
