use Rattle.chr_run_calls.proofs.Said.{by_own, by_none, by_no_memory, from_err}
use Rattle.chr_run_calls.proofs.run.act_by_own.Goals as goal

pub returns-in-Err : goal.returns-in-Err
returns-in-Err g c = by_no_memory _ _ _ _ _ (from_err c.own_judgement.result _ c.in-Err.is c.own_judgement.ensures.err)

pub returns-in-Ok-Some : goal.returns-in-Ok-Some
returns-in-Ok-Some g c = by_own _ _ _ _ _ _ c.own_judgement.result c.in-Ok-Some.field-0 c.in-Ok-Some.judged _ c.in-Ok-Some.is c.in-Ok-Some.field-0-is c.own_judgement.ensures.ok c.go_by.ensures

pub returns-in-Ok-None : goal.returns-in-Ok-None
returns-in-Ok-None g c = by_none _ _ _ _ _ c.own_judgement.result c.in-Ok-None.field-0 _ c.in-Ok-None.is c.in-Ok-None.field-0-is c.own_judgement.ensures.ok c.none_told.ensures
