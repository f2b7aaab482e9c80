use Rattle.chr_calls.proofs.Turning.{report_moves}
use Rattle.chr_calls.proofs.Fires.{fired_moves}
use Rattle.chr_calls.proofs.laws.searches_move_on.Goals as goal

pub returns-clause-reports : goal.returns-clause-reports
returns-clause-reports c = report_moves

pub returns-clause-fired : goal.returns-clause-fired
returns-clause-fired c = fired_moves
