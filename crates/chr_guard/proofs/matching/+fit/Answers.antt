use Rattle.std.proofs.Common.{◌≡◌, ◌<◌, ◌+◌, ◌*◌, length, map, Some, arith, sym, ap, subst, ◌∙◌}
use Rattle.chr_value.specs.Atoms.{ground, ground_comp, said}
use Rattle.chr_value.specs.Limits.{IsWithin}
use Rattle.chr_value.proofs.Places.{all-at}
use Rattle.chr_rule.specs.Parts.{argument}
use Rattle.chr_rule.specs.Scope.{argument_known}
use Rattle.chr_guard.specs.Values.{Valuation, term_under}
use Rattle.chr_guard.specs.Bindings.{Narrows, NoneUnder, NarrowsIf}
use Rattle.chr_rule.specs.declared.term.Open.{Open as CodeOpen}
use Rattle.chr_guard.proofs.Steps.{known_read, read_more, read_stop, read_end}
use Rattle.chr_guard.proofs.Under.{term_weight, weights, weight-at, weight-parts, under-open, comp_within}
use Rattle.chr_rule.proofs.Levels.{argument-Var, known-parts}
use Rattle.chr_guard.proofs.Matched.{told_as}
use Rattle.chr_guard.proofs.Bindings.{keeps_both, narrows_keeps}
use Rattle.chr_guard.proofs.matching.+fit.Goals as goal

pub fit_term-returns-in-Var-clause-narrows : goal.fit_term-returns-in-Var-clause-narrows
fit_term-returns-in-Var-clause-narrows g t c =
    subst (λ u. NarrowsIf (λ v. term_under v u ≡ Some (said c.args.value)) c.hold.result c.args.binding.now c.hold.new.self) (sym (ap argument c.in-Var.is ∙ argument-Var _ c.in-Var.x)) c.hold.ensures.narrows

pub fit_term-fit_terms-requires : goal.fit_term-fit_terms-requires
fit_term-fit_terms-requires g t c κs within =
    let are = c.deref-in-Comp-2.ensures ∙ ap (λ (k : CodeOpen _). k.args.list.items) c.deref-in-Comp.ensures in
    let less : 2 * weights (map argument c.deref-in-Comp-2.result.now) + 1 < 2 * term_weight (argument c.args.term.now) = omega (arith, weight-parts _ c.in-Open.open c.deref-in-Comp-2.result.now c.in-Open.is are) in
    let known = known-parts _ c.in-Open.open c.deref-in-Comp-2.result.now c.in-Open.is are (length c.args.binding.now) ∙ c.requires.known in
    let limits = comp_within c.in-Comp.comp.now c.deref-in-Comp-3.result.now c.deref-in-Comp-3.ensures (subst IsWithin (ap said c.in-Comp.is) c.requires.within) in
    (subst (λ n. 2 * weights (map argument c.deref-in-Comp-2.result.now) + 1 < n) c.decreases less, (within, (omega arith, (known, limits))))

pub fit_term-returns-else-deref-comp-clause-narrows : goal.fit_term-returns-else-deref-comp-clause-narrows
fit_term-returns-else-deref-comp-clause-narrows g t c =
    let says : said c.args.value ≡ ground_comp c.in-Comp.comp.now = ap said c.in-Comp.is in
    let opens = λ (v : Valuation). under-open v c.args.term.now c.in-Open.open c.in-Comp.comp.now c.deref-in-Comp-2.result.now c.deref-in-Comp-3.result.now c.in-Open.is
    (ap (λ (k : CodeOpen _). k.functor.number) (sym c.deref.ensures) ∙ c.if-deref-comp.false)
    (c.deref-in-Comp-2.ensures ∙ ap (λ (k : CodeOpen _). k.args.list.items) c.deref-in-Comp.ensures) c.deref-in-Comp-3.ensures in
    told_as (λ v. map (term_under v) (map argument c.deref-in-Comp-2.result.now) ≡ map (λ t. Some (ground t)) c.deref-in-Comp-3.result.now) (λ v. term_under v (argument c.args.term.now) ≡ Some (said c.args.value)) c.fit_terms.result c.args.binding.now c.fit_terms.new.binding
    (λ v. (λ h. (opens v).0 h ∙ ap (λ x. Some x) (sym says), λ h. (opens v).1 (h ∙ ap (λ x. Some x) says))) c.fit_terms.ensures.narrows

pub fit_terms-fit_term-requires : goal.fit_terms-fit_term-requires
fit_terms-fit_term-requires g t c κs within =
    let terms = c.args.terms.now in
    let here : c.loop-i.i < length terms = omega arith in
    let term = c.index-terms-i.result in
    let less : 2 * term_weight (argument term) < 2 * weights (map argument terms) + 1 = omega (arith, weight-at terms c.loop-i.i term here c.index-terms-i.is) in
    let known = ap (λ m. argument_known m (argument term)) c.loop-i.invariant.places ∙ known_read (argument_known (length c.args.binding.now)) argument terms c.loop-i.i term here c.index-terms-i.is c.requires.known in
    let limits = subst IsWithin (sym c.as_ref.ensures) (all-at ground IsWithin c.args.values.now c.loop-i.i c.index-values-i.result (omega arith) c.index-values-i.is c.requires.within) in
    (subst (λ m. 2 * term_weight (argument term) < m) c.decreases less, (within, (omega arith, (known, limits))))

pub fit_terms-returns-then-not-fit_term-clause-narrows : goal.fit_terms-returns-then-not-fit_term-clause-narrows
fit_terms-returns-then-not-fit_term-clause-narrows g t c =
    read_stop term_under argument (λ t. Some (ground t)) c.args.terms.now c.args.values.now c.loop-i.i _ _ (omega arith) (omega arith) c.index-terms-i.is c.index-values-i.is c.args.binding.now c.loop-i.binding c.loop-i.invariant
    (subst (λ a. NoneUnder (λ v. term_under v (argument c.index-terms-i.result) ≡ Some a) c.loop-i.binding) c.as_ref.ensures (c.if-not-fit_term.ensures.narrows))

pub fit_terms-loop-i-preserved : goal.fit_terms-loop-i-preserved
fit_terms-loop-i-preserved g t c =
    read_more term_under argument (λ t. Some (ground t)) c.args.terms.now c.args.values.now c.loop-i.i _ _ (omega arith) (omega arith) c.index-terms-i.is c.index-values-i.is c.args.binding.now c.loop-i.binding c.fit_term.new.binding c.loop-i.invariant
    (subst (λ a. Narrows (λ v. term_under v (argument c.index-terms-i.result) ≡ Some a) c.loop-i.binding c.fit_term.new.binding) c.as_ref.ensures (c.if-not-fit_term.ensures.narrows))

pub fit_terms-returns-clause-narrows : goal.fit_terms-returns-clause-narrows
fit_terms-returns-clause-narrows g t c =
    read_end term_under argument (λ t. Some (ground t)) c.args.terms.now c.args.values.now c.loop-i.i c.args.binding.now c.loop-i.binding (omega arith) (omega arith) c.loop-i.invariant

pub fit_terms-returns-then-not-fit_term-clause-keeps : goal.fit_terms-returns-then-not-fit_term-clause-keeps
fit_terms-returns-then-not-fit_term-clause-keeps g t c = keeps_both c.args.binding.now c.loop-i.binding c.fit_term.new.binding (narrows_keeps _ c.args.binding.now c.loop-i.binding c.loop-i.invariant) c.fit_term.ensures.keeps

pub fit_terms-returns-clause-keeps : goal.fit_terms-returns-clause-keeps
fit_terms-returns-clause-keeps g t c = narrows_keeps _ c.args.binding.now c.loop-i.binding c.loop-i.invariant
