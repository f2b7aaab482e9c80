use Rattle.std.proofs.Common.{arith}
use Rattle.chr_limits.proofs.Arguments.{counted_one, counted_none}
use Rattle.chr_limits.proofs.terms.count_args.Goals as goal
use Rattle.chr_limits.proofs.terms.count_args.Goals.{then-node-depth-eq1, else-node-depth-eq1}

pub loop-node-preserved : goal.loop-node-preserved
loop-node-preserved c =
    elim c.if-node-depth-eq1.branch [
      | then-node-depth-eq1 w ↦
          record {
            fits = omega arith;
            all = rw w.count-is (counted_one c.args.depth c.loop-node.count _ c.args.behind.now c.loop-node.node-index _ c.loop-node-test.true c.if-node-depth.false w.if-node-depth-eq1.true c.loop-node.invariant.all);
          }
      | else-node-depth-eq1 w ↦
          record {
            fits = omega arith;
            all = rw w.count-is (counted_none c.args.depth c.loop-node.count _ c.args.behind.now c.loop-node.node-index _ c.loop-node-test.true c.if-node-depth.false w.if-node-depth-eq1.false c.loop-node.invariant.all);
          }
    ]
