use Rattle.chr_explain.specs.Lines.{head_words}
use Rattle.chr_explain.proofs.Lists.{more_at, all_of}
use Rattle.chr_explain.proofs.writing.put_heads.Goals as goal

pub loop-label-preserved : goal.loop-label-preserved
loop-label-preserved g c = more_at head_words c.args.labels.now _ _ _ c.loop-label.label-index 0 c.loop-label-test.true c.in_ok-put_head.ensures c.loop-label.invariant

pub returns : goal.returns
returns g c = all_of head_words c.args.labels.now _ _ c.loop-label.label-index c.loop-label-test.false c.loop-label.invariant
