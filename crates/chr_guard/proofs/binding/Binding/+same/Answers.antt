use Rattle.std.proofs.Common.{◌<◌, ◌+◌, ◌*◌, map, refl, arith, sym, ap, subst, ◌∙◌}
use Rattle.chr_rule.specs.Parts.{argument}
use Rattle.chr_rule.specs.declared.term.Open.{Open as CodeOpen}
use Rattle.chr_guard.specs.Bindings.{bound_at}
use Rattle.chr_guard.proofs.Under.{SameFrom, term_weight, weights, weight-at, weight-parts, same-next, same-stop, same-end, same-count, same-opens}
use Rattle.chr_guard.proofs.binding.Binding.+same.Goals as goal

pub same-all_same-requires : goal.same-all_same-requires
same-all_same-requires g t c κs within =
    let terms = c.deref-then-deref-2.result.now in
    let is = weight-parts _ c.in-Open.open terms c.in-Open.is (c.deref-then-deref-2.ensures ∙ ap (λ (k : CodeOpen _). k.args.list.items) c.deref-then-deref.ensures) in
    (subst (λ n. 2 * weights (map argument terms) + 1 < n) c.decreases (omega (arith, is)), (within, omega arith))

pub all_same-same-requires : goal.all_same-same-requires
all_same-same-requires g t c κs within =
    let term = c.index-terms-i.result in
    let less : 2 * term_weight (argument term) < 2 * weights (map argument c.args.terms.now) + 1 = omega (arith, weight-at c.args.terms.now c.loop-i.i term c.loop-i-test.true c.index-terms-i.is) in
    (subst (λ n. 2 * term_weight (argument term) < n) c.decreases less, (within, omega arith))

pub same-returns-then-deref : goal.same-returns-then-deref
same-returns-then-deref g t c =
    let opens =
    same-opens (bound_at c.args.self.now) c.args.s.now c.args.t.now c.in-Open.open c.in-Open-t.other c.in-Open.is c.in-Open-t.is c.deref-then-deref-2.result.now c.deref-then-deref-4.result.now
    (c.deref-then-deref-2.ensures ∙ ap (λ (k : CodeOpen _). k.args.list.items) c.deref-then-deref.ensures) (c.deref-then-deref-4.ensures ∙ ap (λ (k : CodeOpen _). k.args.list.items) c.deref-then-deref-3.ensures)
    (ap (λ (k : CodeOpen _). k.functor.number) (sym c.deref.ensures) ∙ c.if-deref.true ∙ ap (λ (k : CodeOpen _). k.functor.number) c.deref-in-Open-t.ensures) in
    (λ h. opens.0 (c.all_same.ensures.0 h), λ h. c.all_same.ensures.1 (opens.1 h))

pub all_same-returns-then-terms-others : goal.all_same-returns-then-terms-others
all_same-returns-then-terms-others g t c = (λ h. absurd (cc), λ e. absurd (c.if-terms-others.true (same-count (bound_at c.args.self.now) c.args.terms.now c.args.others.now e)))

pub all_same-returns-then-not-same : goal.all_same-returns-then-not-same
all_same-returns-then-not-same g t c = (
  λ h. absurd (cc),
  λ e. absurd (same-stop (bound_at c.args.self.now) c.args.terms.now c.args.others.now c.loop-i.i c.index-terms-i.result c.index-others-i.result c.loop-i-test.true (omega arith) c.index-terms-i.is c.index-others-i.is (SameFrom (bound_at c.args.self.now) c.args.terms.now c.args.others.now 0)
      (λ s. (let z = sym c.if-not-same.true ∙ c.same.ensures.1 s in cc)) c.loop-i.invariant e),
)

pub all_same-loop-i-preserved : goal.all_same-loop-i-preserved
all_same-loop-i-preserved g t c =
    same-next (bound_at c.args.self.now) c.args.terms.now c.args.others.now c.loop-i.i c.index-terms-i.result c.index-others-i.result c.loop-i-test.true (omega arith) c.index-terms-i.is c.index-others-i.is (SameFrom (bound_at c.args.self.now) c.args.terms.now c.args.others.now 0) (c.same.ensures.0 c.if-not-same.false) c.loop-i.invariant

pub all_same-returns : goal.all_same-returns
all_same-returns g t c = (λ h. (c.loop-i.invariant.0 (same-end (bound_at c.args.self.now) c.args.terms.now c.args.others.now c.loop-i.i c.loop-i-test.false (omega arith))), λ e. refl)
