use Rattle.chr_rule.proofs.Places.{all_more, not_all}
use Rattle.chr_text.proofs.named.are_named.Goals as goal

pub returns-then-not-is_named : goal.returns-then-not-is_named
returns-then-not-is_named g c =
    not_all g.X.Named.said (g.X.Named.named c.args.count) c.args.parts.now c.loop-part.part-index _ _ c.loop-part-test.true c.part-item.is c.is_named.ensures c.if-not-is_named.true

pub loop-part-preserved : goal.loop-part-preserved
loop-part-preserved g c =
    all_more g.X.Named.said (g.X.Named.named c.args.count) c.args.parts.now c.loop-part.part-index _ c.loop-part-test.true c.part-item.is c.loop-part.invariant (c.is_named.ensures.0 c.if-not-is_named.false)
