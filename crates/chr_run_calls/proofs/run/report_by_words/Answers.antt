use Rattle.std.proofs.Common.{ap}
use Rattle.chr_run_calls.specs.Code.{words_of}
use Rattle.chr_run_calls.proofs.Said.{by_given_words, by_own_words, by_no_words}
use Rattle.chr_run_calls.proofs.run.report_by_words.Goals as goal

pub returns-in-Given : goal.returns-in-Given
returns-in-Given g c =
    by_given_words _ _ _ _ _ _ c.in-Given.judgements.items c.deref.result.now c.deref-in-Given.result.now _ (ap words_of c.in-Given.is) c.deref.ensures.value c.are_right.ensures c.deref-in-Given.ensures.value c.report_batch.ensures

pub returns-in-Err : goal.returns-in-Err
returns-in-Err g c = by_no_words _ _ _ _ _ (ap words_of c.in-Own.is) c.in-Err.ensures.err

pub returns-in-Ok : goal.returns-in-Ok
returns-in-Ok g c = by_own_words _ _ _ _ _ _ c.in-Ok.judgements.items _ _ (ap words_of c.in-Own.is) c.in-Ok.ensures.ok c.deref-in-Ok.ensures.value c.report_batch-in-Ok.ensures
