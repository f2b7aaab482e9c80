use Rattle.chr_causes.proofs.Marked.{mark_more}
use Rattle.chr_causes.proofs.causes.mark_labels.Goals as goal

pub loop-label-preserved : goal.loop-label-preserved
loop-label-preserved c = mark_more c.args.labels.now c.loop-label.label-index c.args.marks.now c.loop-label.marks c.loop-label-test.true c.requires c.loop-label.invariant
