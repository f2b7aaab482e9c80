use Rattle.std.proofs.Common.{arith, ap, sym, ◌∙◌}
use Rattle.chr_limits.proofs.Arguments.{counted}
use Rattle.chr_limits.proofs.parts.count.Goals as goal
use Rattle.chr_limits.proofs.parts.count.Goals.{then-passes, else-passes}

pub loop-part-preserved : goal.loop-part-preserved
loop-part-preserved g c =
    let same = ap (λ x. g.T.Test.passed c.args.test (g.T.Test.said x)) (sym c.part-item.is) ∙ sym c.passes.ensures in
    let all = counted (g.T.Test.passed c.args.test) g.T.Test.said c.loop-part.count _ c.args.parts.now c.loop-part.part-index c.part-item.result c.loop-part-test.true c.loop-part.invariant.all in
    elim c.if-passes.branch [
      | then-passes w ↦ record { fits = omega arith; all = rw w.count-is (rw (same ∙ w.if-passes.true) at all) }
      | else-passes w ↦ record { fits = omega arith; all = rw w.count-is (rw (same ∙ w.if-passes.false) at all) }
    ]
