use Rattle.chr_run_calls.proofs.Made.{whole_calls, cut_calls}
use Rattle.chr_run_calls.proofs.laws.runs_of_one_seat_are_lists_of_calls.Goals as goal

pub returns-clause-whole : goal.returns-clause-whole
returns-clause-whole c = whole_calls

pub returns-clause-cut_short : goal.returns-clause-cut_short
returns-clause-cut_short c = cut_calls
