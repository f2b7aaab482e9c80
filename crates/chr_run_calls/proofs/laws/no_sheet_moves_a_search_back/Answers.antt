use Rattle.chr_run_calls.proofs.Made.{sheets_move, claimed_move, reported_move}
use Rattle.chr_run_calls.proofs.laws.no_sheet_moves_a_search_back.Goals as goal

pub returns-clause-sheets : goal.returns-clause-sheets
returns-clause-sheets c = sheets_move

pub returns-clause-claims : goal.returns-clause-claims
returns-clause-claims c = claimed_move

pub returns-clause-reports : goal.returns-clause-reports
returns-clause-reports c = reported_move
