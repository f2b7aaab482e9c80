use Rattle.std.proofs.Common.{Some, false}
use Rattle.chr_run_calls.specs.Told.{trials_in, first_of}
use Rattle.chr_run_calls.proofs.Said.{told_by, on_err_any}
use Rattle.chr_run_calls.proofs.own.own_judgement.Goals as goal

pub returns-in_err-copy-clause-err : goal.returns-in_err-copy-clause-err
returns-in_err-copy-clause-err g c =
    on_err_any c.from_residual.result
    (c.in-Some-first_trial.trial.now, told_by (λ a. first_of (trials_in false a)) _ _ (Some c.in-Some-first_trial.trial.now) c.in-Some.ensures c.in-Some-first_trial.ensures)
