use Rattle.laws_accepts.proofs.Checked.{run_answer, strict_run_answer}
use Rattle.laws_accepts.proofs.laws.runs_are_answered_so.Goals as goal

pub returns-clause-whole_log : goal.returns-clause-whole_log
returns-clause-whole_log c = run_answer

pub returns-clause-strict_log : goal.returns-clause-strict_log
returns-clause-strict_log c = strict_run_answer
