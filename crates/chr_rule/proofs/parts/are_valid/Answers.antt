use Rattle.chr_rule.proofs.Places.{all_more, all_told, not_all}
use Rattle.chr_rule.proofs.parts.are_valid.Goals as goal

pub returns-then-not-is_valid : goal.returns-then-not-is_valid
returns-then-not-is_valid g c = not_all g.P.Part.said g.P.Part.IsValid c.args.parts.now c.loop-part.part-index _ _ c.loop-part-test.true c.part-item.is c.is_valid.ensures c.if-not-is_valid.true

pub loop-part-preserved : goal.loop-part-preserved
loop-part-preserved g c = all_more g.P.Part.said g.P.Part.IsValid c.args.parts.now c.loop-part.part-index _ c.loop-part-test.true c.part-item.is c.loop-part.invariant (c.is_valid.ensures.0 c.if-not-is_valid.false)

pub returns : goal.returns
returns g c = all_told g.P.Part.said g.P.Part.IsValid c.args.parts.now c.loop-part.part-index c.loop-part-test.false c.loop-part.invariant
