use Rattle.chr_explain.specs.Graphs.{arrow}
use Rattle.chr_explain.proofs.Lists.{more_at, all_of}
use Rattle.chr_explain.proofs.dot.put_arrows.Goals as goal

pub loop-label-preserved : goal.loop-label-preserved
loop-label-preserved g c = more_at (arrow c.args.to c.args.end.now) c.args.from.now _ _ _ c.loop-label.label-index 0 c.loop-label-test.true c.in_ok-put_arrow.ensures c.loop-label.invariant

pub returns : goal.returns
returns g c = all_of (arrow c.args.to c.args.end.now) c.args.from.now _ _ c.loop-label.label-index c.loop-label-test.false c.loop-label.invariant
