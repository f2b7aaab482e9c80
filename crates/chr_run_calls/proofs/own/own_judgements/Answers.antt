use Rattle.std.proofs.Common.{Some, Option, List, IfOk, sym, subst, true}
use Rattle.chr_search.specs.Verdicts.{Trial}
use Rattle.chr_run_calls.specs.Told.{trials_in, AreOfBatch}
use Rattle.chr_run_calls.proofs.Said.{told_by, on_err_any}
use Rattle.chr_run_calls.proofs.own.own_judgements.Goals as goal

pub returns-clause-ok : goal.returns-clause-ok
returns-clause-ok g c =
    let found = told_by (trials_in true) _ _ (Some c.in-Some-batch_in.trials.now) c.in-Some.ensures c.in-Some-batch_in.ensures in
    subst (λ (told : Option (List Trial)). IfOk c.judge_all.result (λ judgements. AreOfBatch told judgements.items)) (sym found) c.judge_all.ensures

pub returns-clause-err : goal.returns-clause-err
returns-clause-err g c =
    on_err_any c.judge_all.result
    (c.in-Some-batch_in.trials.now, told_by (trials_in true) _ _ (Some c.in-Some-batch_in.trials.now) c.in-Some.ensures c.in-Some-batch_in.ensures)
