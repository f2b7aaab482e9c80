use Rattle.std.proofs.Common.{◌≡◌, rules, map, Some, arith, sym, ap, ◌∙◌, option_map}
use Rattle.chr_value.specs.Atoms.{Comp, args_of, ground, grounds}
use Rattle.chr_value.proofs.Levels.{ground-Comp}
use Rattle.chr_rule.specs.Parts.{argument}
use Rattle.chr_rule.specs.Rules.{terms_of}
use Rattle.chr_rule.specs.declared.term.Open.{Open as CodeOpen}
use Rattle.chr_guard.specs.Values.{term_under, terms_under}
use Rattle.chr_guard.specs.Bindings.{bound_at}
use Rattle.chr_rule.proofs.Levels.{argument-parts}
use Rattle.chr_guard.proofs.Under.{made-more, made-none, made-all}
use Rattle.chr_guard.proofs.body.+made.Goals as goal

pub all_made-returns-in_default-clause-values : goal.all_made-returns-in_default-clause-values
all_made-returns-in_default-clause-values g t c =
    made-none (bound_at c.args.binding.now) c.args.terms.now c.loop-term.term-index c.term-item.result c.loop-term.values.items c.loop-term-test.true c.term-item.is
    (ap (option_map ground) (sym c.in_default.is) ∙ c.in_ok-value.ensures) ∙ c.loop-term.invariant.made

pub all_made-loop-term-preserved : goal.all_made-loop-term-preserved
all_made-loop-term-preserved g t c = record {
  made = made-more (bound_at c.args.binding.now) c.args.terms.now c.loop-term.term-index c.term-item.result c.loop-term.values.items c.push_reserved.new.self.items c.in-Some.value c.loop-term-test.true c.term-item.is
      (ap (option_map ground) (sym c.in-Some.is) ∙ c.in_ok-value.ensures) c.push_reserved.ensures.items ∙ c.loop-term.invariant.made;
  filled = omega (arith, c.push_reserved.ensures.len, c.loop-term.invariant.filled);
  room = omega (arith, c.push_reserved.ensures.capacity, c.loop-term.invariant.room);
}

pub all_made-returns-clause-values : goal.all_made-returns-clause-values
all_made-returns-clause-values g t c = made-all (bound_at c.args.binding.now) c.args.terms.now c.loop-term.term-index c.loop-term.values.items c.loop-term-test.false ∙ c.loop-term.invariant.made

pub made-returns-in_ok-new-in-Open : goal.made-returns-in_ok-new-in-Open
made-returns-in_ok-new-in-Open g t c =
    let f = c.in-Open.open.value.functor.number in
    let are = c.deref-in-Open.ensures ∙ ap (λ (k : CodeOpen _). k.args.list.items) c.deref.ensures in
    let args : Some (args_of (grounds c.in-Some-2.args.items)) ≡ terms_under (bound_at c.args.binding.now) (terms_of (map argument c.deref-in-Open.result.now)) =
    ap (option_map (λ vs. args_of (grounds vs.items))) (sym c.in-Some-2.is) ∙ c.in_ok-args-in-Open.ensures.values in
    ap (λ x. Some x) (ground-Comp c.in_ok-new-in-Open.field-0 ∙ (search rules)) ∙ ap (option_map (Comp f)) args ∙ sym (ap (term_under (bound_at c.args.binding.now)) (argument-parts c.args.term.now c.in-Open.open c.deref-in-Open.result.now c.in-Open.is are))
