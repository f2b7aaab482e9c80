use Rattle.std.proofs.Common.{◌≡◌, ◌<◌, ◌+◌, ◌*◌, map, Some, refl, arith, sym, ap, subst, ◌∙◌}
use Rattle.chr_value.specs.Atoms.{ground, ground_comp, said}
use Rattle.chr_rule.specs.Parts.{argument}
use Rattle.chr_rule.specs.declared.term.Open.{Open as CodeOpen}
use Rattle.chr_guard.specs.Values.{term_under}
use Rattle.chr_guard.specs.Bindings.{bound_at}
use Rattle.chr_guard.proofs.Under.{term_weight, weights, weight-at, weight-parts, under-open}
use Rattle.chr_guard.proofs.Steps.{read_at, read_next, read_whole, read_count}
use Rattle.chr_guard.proofs.binding.Binding.+stands.Goals as goal

pub stands_for-stand_for-requires : goal.stands_for-stand_for-requires
stands_for-stand_for-requires g t c κs within =
    let terms = c.deref-then-deref-comp-2.result.now in
    let is = weight-parts _ c.in-Open.open terms c.in-Open.is (c.deref-then-deref-comp-2.ensures ∙ ap (λ (k : CodeOpen _). k.args.list.items) c.deref-then-deref-comp.ensures) in
    (subst (λ n. 2 * weights (map argument terms) + 1 < n) c.decreases (omega (arith, is)), (within, omega arith))

pub stand_for-stands_for-requires : goal.stand_for-stands_for-requires
stand_for-stands_for-requires g t c κs within =
    let term = c.index-terms-i.result in
    let less : 2 * term_weight (argument term) < 2 * weights (map argument c.args.terms.now) + 1 = omega (arith, weight-at c.args.terms.now c.loop-i.i term c.loop-i-test.true c.index-terms-i.is) in
    (subst (λ n. 2 * term_weight (argument term) < n) c.decreases less, (within, omega arith))

pub stands_for-returns-then-deref-comp : goal.stands_for-returns-then-deref-comp
stands_for-returns-then-deref-comp g t c =
    let opens =
    under-open (bound_at c.args.self.now) c.args.term.now c.in-Open.open c.in-Comp.comp.now c.deref-then-deref-comp-2.result.now c.deref-then-deref-comp-3.result.now c.in-Open.is
    (ap (λ (k : CodeOpen _). k.functor.number) (sym c.deref.ensures) ∙ c.if-deref-comp.true)
    (c.deref-then-deref-comp-2.ensures ∙ ap (λ (k : CodeOpen _). k.args.list.items) c.deref-then-deref-comp.ensures) c.deref-then-deref-comp-3.ensures in
    let says : said c.args.value ≡ ground_comp c.in-Comp.comp.now = ap said c.in-Comp.is in
    (λ h. opens.0 (c.stand_for.ensures.0 h) ∙ ap (λ v. Some v) (sym says), λ h. c.stand_for.ensures.1 (opens.1 (h ∙ ap (λ v. Some v) says)))

pub stand_for-returns-then-terms-values : goal.stand_for-returns-then-terms-values
stand_for-returns-then-terms-values g t c =
    (λ h. absurd (cc), λ e. absurd (c.if-terms-values.true (read_count term_under argument (λ v. Some (ground v)) c.args.terms.now c.args.values.now (bound_at c.args.self.now) e)))

pub stand_for-returns-then-not-stands_for : goal.stand_for-returns-then-not-stands_for
stand_for-returns-then-not-stands_for g t c = (
  λ h. absurd (cc),
  λ e.
      sym c.if-not-stands_for.true
      ∙ c.stands_for.ensures.1 (read_at term_under argument (λ v. Some (ground v)) c.args.terms.now c.args.values.now c.loop-i.i c.index-terms-i.result c.index-values-i.result c.loop-i-test.true (omega arith) c.index-terms-i.is c.index-values-i.is (bound_at c.args.self.now) e ∙ ap (λ v. Some v) (sym c.as_ref.ensures)),
)

pub stand_for-loop-i-preserved : goal.stand_for-loop-i-preserved
stand_for-loop-i-preserved g t c =
    read_next term_under argument (λ v. Some (ground v)) c.args.terms.now c.args.values.now c.loop-i.i c.index-terms-i.result c.index-values-i.result c.loop-i-test.true (omega arith) c.index-terms-i.is c.index-values-i.is (bound_at c.args.self.now) c.loop-i.invariant
    (c.stands_for.ensures.0 c.if-not-stands_for.false ∙ ap (λ v. Some v) c.as_ref.ensures)

pub stand_for-returns : goal.stand_for-returns
stand_for-returns g t c =
    (λ h. (read_whole term_under argument (λ v. Some (ground v)) c.args.terms.now c.args.values.now c.loop-i.i (bound_at c.args.self.now) c.loop-i-test.false (omega arith) c.loop-i.invariant), λ e. refl)
