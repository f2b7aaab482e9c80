use Rattle.chr_explain.specs.Graphs.{escaped}
use Rattle.chr_explain.proofs.Lists.{more_at, all_of}
use Rattle.chr_explain.proofs.dot.put_all_escaped.Goals as goal

pub loop-byte-preserved : goal.loop-byte-preserved
loop-byte-preserved g c = more_at escaped c.args.bytes.now _ _ _ c.loop-byte.byte-index 0 c.loop-byte-test.true c.in_ok-put_escaped.ensures c.loop-byte.invariant

pub returns : goal.returns
returns g c = all_of escaped c.args.bytes.now _ _ c.loop-byte.byte-index c.loop-byte-test.false c.loop-byte.invariant
