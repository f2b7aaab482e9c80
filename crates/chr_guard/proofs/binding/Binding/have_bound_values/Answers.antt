use Rattle.std.proofs.Common.{◌≡◌, List, map, None, IsSome, sym, subst, ◌∙◌, refl, take_all, arith}
use Rattle.std.specs.List.{AllByRecursion}
use Rattle.chr_value.proofs.Places.{all-at}
use Rattle.chr_rule.specs.declared.term.Term.{Term as RuleTerm}
use Rattle.chr_rule.specs.Parts.{argument, shape}
use Rattle.chr_guard.specs.Values.{value_under}
use Rattle.chr_guard.specs.Bindings.{bound_at, IsBound}
use Rattle.chr_guard.specs.Instances.{all_values}
use Rattle.chr_guard.proofs.Under.{none_is_none, no_values, some_values_more, some_atom}
use Rattle.chr_guard.proofs.binding.Binding.have_bound_values.Goals as goal

pub has_bound_value-requires : goal.has_bound_value-requires
has_bound_value-requires g c = (
  omega arith,
  all-at argument (IsBound c.args.self.now) c.deref-term-items.result.now c.loop-term.term-index c.term-item.result c.loop-term-test.true c.term-item.is
      (subst (λ (ts : List (RuleTerm _)). AllByRecursion (IsBound c.args.self.now) (map argument ts)) (sym c.deref-term-items.ensures.value) c.requires),
)

pub returns-then-not-has_bound_value : goal.returns-then-not-has_bound_value
returns-then-not-has_bound_value g c =
    let value = value_under (bound_at c.args.self.now) in
    let none : value (argument c.term-item.result) ≡ None = none_is_none (value (argument c.term-item.result)) (λ s. (let z = sym c.if-not-has_bound_value.true ∙ c.has_bound_value.ensures.1 s in cc)) in
    let all = no_values argument value c.deref-term-items.result.now c.loop-term.term-index c.term-item.result c.loop-term-test.true c.term-item.is none in (
      λ h. absurd (cc),
      λ h.
          subst (λ o. IsSome o) all (subst (λ ts. IsSome (all_values value (map argument ts))) (sym c.deref-term-items.ensures.value) ((some_atom value (shape c.args.pattern.now)).1 h)),
    )

pub loop-term-preserved : goal.loop-term-preserved
loop-term-preserved g c =
    some_values_more argument (value_under (bound_at c.args.self.now)) c.deref-term-items.result.now c.loop-term.term-index c.term-item.result c.loop-term-test.true c.term-item.is c.loop-term.invariant (c.has_bound_value.ensures.0 c.if-not-has_bound_value.false)

pub returns : goal.returns
returns g c =
    let value = value_under (bound_at c.args.self.now) in
    let all = subst (λ ts. IsSome (all_values value (map argument ts))) (take_all c.loop-term.term-index c.deref-term-items.result.now c.loop-term-test.false ∙ c.deref-term-items.ensures.value) c.loop-term.invariant in
    (λ h. (some_atom value (shape c.args.pattern.now)).0 all, λ h. refl)
