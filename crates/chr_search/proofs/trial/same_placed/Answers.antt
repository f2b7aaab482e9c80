use Rattle.std.proofs.Common.{refl, arith}
use Rattle.chr_rule.proofs.Lists.{differ_at}
use Rattle.chr_search.specs.Placed.{placed_as}
use Rattle.chr_search.proofs.Same.{other_labels, same_count}
use Rattle.chr_search.proofs.Making.{same_more, same_all}
use Rattle.chr_search.proofs.trial.same_placed.Goals as goal

pub returns-then-not-same_labels : goal.returns-then-not-same_labels
returns-then-not-same_labels g c = other_labels placed_as c.args.placed.now c.args.other.now c.if-not-same_labels.ensures

pub returns-then-not-same : goal.returns-then-not-same
returns-then-not-same g c =
    differ_at placed_as _ _ c.loop-i.i _ _ _ c.loop-i-test.true (omega (arith, c.loop-i-test.true, same_count (λ p. p.label) c.args.placed.now c.args.other.now (c.if-not-same_labels.ensures.0 refl))) c.index-placed-i.is c.index-other-i.is c.same.ensures c.if-not-same.true

pub loop-i-preserved : goal.loop-i-preserved
loop-i-preserved g c =
    same_more placed_as placed_as _ _ c.loop-i.i _ _ c.loop-i.invariant c.loop-i-test.true (omega (arith, c.loop-i-test.true, same_count (λ p. p.label) c.args.placed.now c.args.other.now (c.if-not-same_labels.ensures.0 refl))) c.index-placed-i.is c.index-other-i.is (c.same.ensures.0 c.if-not-same.false)

pub returns : goal.returns
returns g c = (
  λ t. same_all placed_as placed_as _ _ c.loop-i.i c.loop-i.invariant c.loop-i-test.false (omega (arith, c.loop-i-test.false, same_count (λ p. p.label) c.args.placed.now c.args.other.now (c.if-not-same_labels.ensures.0 refl))),
  λ e. refl,
)
