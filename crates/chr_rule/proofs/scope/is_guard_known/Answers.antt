use Rattle.std.proofs.lemmas.List.{drop_all}
use Rattle.chr_rule.specs.Parts.{comparison}
use Rattle.chr_rule.proofs.Places.{map-left}
use Rattle.chr_rule.proofs.scope.is_guard_known.Goals as goal

pub returns-then-not-is_known : goal.returns-then-not-is_known
returns-then-not-is_known g c = rw (← c.loop-comparison.invariant, map-left comparison _ _ _ c.loop-comparison-test.true c.comparison-item.is, ← c.is_known.ensures, c.if-not-is_known.true)

pub loop-comparison-preserved : goal.loop-comparison-preserved
loop-comparison-preserved g c = rw (← c.loop-comparison.invariant, map-left comparison _ _ _ c.loop-comparison-test.true c.comparison-item.is, ← c.is_known.ensures, c.if-not-is_known.false)

pub returns : goal.returns
returns g c = rw (← c.loop-comparison.invariant, drop_all _ _ c.loop-comparison-test.false)
