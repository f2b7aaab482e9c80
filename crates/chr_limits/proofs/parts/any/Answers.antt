use Rattle.std.proofs.Common.{sym, ◌∙◌}
use Rattle.chr_rule.proofs.Places.{any_here, any_left}
use Rattle.chr_limits.proofs.parts.any.Goals as goal

pub returns-then-passes : goal.returns-then-passes
returns-then-passes g c =
    sym (sym c.loop-part.invariant ∙ any_here g.T.Test.said (g.T.Test.passed c.args.test) c.args.parts.now c.loop-part.part-index _ c.loop-part-test.true c.part-item.is (sym c.passes.ensures ∙ c.if-passes.true))

pub loop-part-preserved : goal.loop-part-preserved
loop-part-preserved g c =
    sym (any_left g.T.Test.said (g.T.Test.passed c.args.test) c.args.parts.now c.loop-part.part-index _ c.loop-part-test.true c.part-item.is (sym c.passes.ensures ∙ c.if-passes.false)) ∙ c.loop-part.invariant
