use Rattle.laws_accepts.proofs.Runs.{is_run, is_final, is_quiet, is_strict}
use Rattle.laws_accepts.proofs.laws.books_are_runs_for_the_checker.Goals as goal

pub returns-clause-run : goal.returns-clause-run
returns-clause-run c = λ b posts head. is_run b.rules b head.lawful

pub returns-clause-final_run : goal.returns-clause-final_run
returns-clause-final_run c = λ b posts whole head. (is_quiet b.rules b whole head.lawful, is_final b.rules b head.lawful)

pub returns-clause-strict_run : goal.returns-clause-strict_run
returns-clause-strict_run c = λ b posts head. is_strict b.rules b head.lawful
