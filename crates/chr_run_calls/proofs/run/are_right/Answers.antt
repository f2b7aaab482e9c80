use Rattle.std.proofs.Common.{subst, sym}
use Rattle.chr_calls.specs.Batches.{AreRight}
use Rattle.chr_run_calls.proofs.Said.{one_taken, right_more}
use Rattle.chr_run_calls.proofs.run.are_right.Goals as goal

pub loop-judged-preserved : goal.loop-judged-preserved
loop-judged-preserved g c =
    subst AreRight (sym (one_taken c.args.judgements.now c.loop-judged.judged-index c.judged-item.result c.loop-judged-test.true c.judged-item.is))
    (right_more _ c.judged-item.result c.loop-judged.invariant c.verdict-right.ensures.right)
