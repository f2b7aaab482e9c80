use Rattle.std.proofs.lemmas.List.{drop_all}
use Rattle.chr_rule.specs.Parts.{shape}
use Rattle.chr_rule.proofs.Places.{map-left}
use Rattle.chr_rule.proofs.scope.count_heads.Goals as goal

pub loop-head-preserved : goal.loop-head-preserved
loop-head-preserved g c = rw (← c.loop-head.invariant, map-left shape _ _ _ c.loop-head-test.true c.head-item.is, ← c.deref.ensures.value, ← c.in_ok-known.ensures)

pub returns-in_err-known : goal.returns-in_err-known
returns-in_err-known g c = rw (c.from_residual.ensures, ← c.loop-head.invariant, map-left shape _ _ _ c.loop-head-test.true c.head-item.is, ← c.deref.ensures.value, ← c.in_err-known.ensures)

pub returns : goal.returns
returns g c = rw (← c.loop-head.invariant, drop_all _ _ c.loop-head-test.false)
