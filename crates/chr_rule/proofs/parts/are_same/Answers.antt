use Rattle.std.proofs.Common.{arith}
use Rattle.chr_rule.proofs.Lists.{differ_at}
use Rattle.chr_rule.proofs.Places.{differ_long, same_more, same_told}
use Rattle.chr_rule.proofs.parts.are_same.Goals as goal

pub returns-then-not-is_same : goal.returns-then-not-is_same
returns-then-not-is_same g c = differ_at g.P.Part.said c.args.parts.now c.args.others.now c.loop-i.i _ _ _ (omega arith) (omega arith) c.index-parts-i.is c.index-others-i.is c.is_same.ensures c.if-not-is_same.true

pub loop-i-preserved : goal.loop-i-preserved
loop-i-preserved g c =
    same_more g.P.Part.said c.args.parts.now c.args.others.now c.loop-i.i _ _ (omega arith) (omega arith) c.index-parts-i.is c.index-others-i.is (c.is_same.ensures.0 c.if-not-is_same.false) c.loop-i.invariant

pub returns-then-parts-others : goal.returns-then-parts-others
returns-then-parts-others g c = differ_long g.P.Part.said c.args.parts.now c.args.others.now c.if-parts-others.true

pub returns : goal.returns
returns g c = same_told g.P.Part.said c.args.parts.now c.args.others.now c.loop-i.i c.loop-i-test.false (omega arith) c.loop-i.invariant
