use Rattle.chr_value.specs.Atoms.{TermIsNamed, ground}
use Rattle.chr_value.proofs.Places.{all-more}
use Rattle.chr_value.proofs.ArgumentLaws.{named-not, named-all}
use Rattle.chr_value.proofs.value.+named.Goals as goal

pub Comp::is_named-returns-then-not-is_named : goal.Comp::is_named-returns-then-not-is_named
Comp::is_named-returns-then-not-is_named g t c = named-not c.args.count c.args.self.now _ c.loop-value.value-index _ c.is_named.result c.deref-value-items.ensures c.loop-value-test.true c.value-item.is c.is_named.ensures c.if-not-is_named.true

pub Comp::is_named-loop-value-preserved : goal.Comp::is_named-loop-value-preserved
Comp::is_named-loop-value-preserved g t c = all-more ground (TermIsNamed c.args.count) c.deref-value-items.result.now c.loop-value.value-index _ c.loop-value-test.true c.value-item.is c.loop-value.invariant (c.is_named.ensures.0 c.if-not-is_named.false)

pub Comp::is_named-returns : goal.Comp::is_named-returns
Comp::is_named-returns g t c = named-all c.args.count c.args.self.now _ c.loop-value.value-index c.deref-value-items.ensures c.if-count-self.false c.loop-value-test.false c.loop-value.invariant
