use Rattle.std.proofs.Common.{refl, sym, ap, ◌∙◌, arith}
use Rattle.chr_search.proofs.Same.{labels_differ}
use Rattle.chr_search.proofs.Making.{same_more, same_all}
use Rattle.chr_search.proofs.trial.same_labels.Goals as goal

pub returns-then-placed-i : goal.returns-then-placed-i
returns-then-placed-i g c =
    labels_differ (λ p. p.label) _ _ c.loop-i.i _ _ (omega arith) (omega arith) c.index-placed-i.is c.index-other-i.is c.if-placed-i.true

pub loop-i-preserved : goal.loop-i-preserved
loop-i-preserved g c =
    same_more (λ p. p.label) (λ p. p.label) _ _ c.loop-i.i _ _ c.loop-i.invariant (omega arith) (omega arith) c.index-placed-i.is c.index-other-i.is
    (ap (λ p. p.label) c.index-placed-i.is ∙ c.if-placed-i.false ∙ ap (λ p. p.label) (sym c.index-other-i.is))

pub returns : goal.returns
returns g c = (λ t. same_all (λ p. p.label) (λ p. p.label) c.args.placed.now c.args.other.now c.loop-i.i c.loop-i.invariant (omega arith) (omega arith), λ e. refl)
