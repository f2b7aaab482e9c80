use Rattle.chr_run_calls.proofs.Made.{sheet_calls, claimed_calls, reported_calls}
use Rattle.chr_run_calls.proofs.laws.sheets_are_lists_of_calls.Goals as goal

pub returns-clause-sheets : goal.returns-clause-sheets
returns-clause-sheets c = sheet_calls

pub returns-clause-claims : goal.returns-clause-claims
returns-clause-claims c = claimed_calls

pub returns-clause-reports : goal.returns-clause-reports
returns-clause-reports c = reported_calls
