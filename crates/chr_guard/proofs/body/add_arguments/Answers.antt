use Rattle.std.proofs.Common.{◌≡◌, ◌++◌, ◌∷◌, [], length, map, Some, None, sym, ap, ◌∙◌, arith, option_map}
use Rattle.std.proofs.lemmas.List.{length_push, take_all}
use Rattle.chr_value.specs.Atoms.{ground}
use Rattle.chr_rule.specs.Parts.{argument, shape}
use Rattle.chr_guard.specs.Values.{term_under, value_under}
use Rattle.chr_guard.specs.Bindings.{bound_at}
use Rattle.chr_guard.specs.Instances.{all_values}
use Rattle.chr_guard.proofs.Under.{limited, values_more, no_values, atom_by_values}
use Rattle.chr_guard.proofs.body.add_arguments.Goals as goal

pub returns-in_default-clause-none : goal.returns-in_default-clause-none
returns-in_default-clause-none g c = λ no.
    let value = value_under (bound_at c.args.binding.now) in
    let none : value (argument c.term-item.result) ≡ None = sym c.in_ok-value.ensures ∙ ap (option_map ground) c.in_default.is in
    let all : all_values value (map argument c.deref-term-items.result.now) ≡ None = no_values argument value c.deref-term-items.result.now c.loop-term.term-index c.term-item.result c.loop-term-test.true c.term-item.is none in
    ap (option_map (λ values. record { name = c.args.pattern.now.name.number; args = values })) (ap (λ ts. all_values value (map argument ts)) (sym c.deref-term-items.ensures.value) ∙ all)

pub push-requires : goal.push-requires
push-requires g c =
    let some : value_under (bound_at c.args.binding.now) (argument c.term-item.result) ≡ Some (ground c.in-Some.value) = sym c.in_ok-value.ensures ∙ ap (option_map ground) c.in-Some.is in
    record { room = omega (arith, c.loop-term-test.true, c.deref-term-items.ensures.len, c.args.pattern.now.few, c.loop-term.invariant.few); within = (limited (term_under (bound_at c.args.binding.now) (argument c.term-item.result)) (ground c.in-Some.value) some).1 }

pub loop-term-preserved : goal.loop-term-preserved
loop-term-preserved g c =
    let value = value_under (bound_at c.args.binding.now) in
    let some : value (argument c.term-item.result) ≡ Some (ground c.in-Some.value) = sym c.in_ok-value.ensures ∙ ap (option_map ground) c.in-Some.is in
    let more : c.push.new.self.args ≡ c.loop-term.atom.args ++ ground c.in-Some.value ∷ [] = ap (λ a. a.args) c.in_ok-push.ensures.ok in
    record {
      name = ap (λ a. a.name) c.in_ok-push.ensures.ok ∙ c.loop-term.invariant.name;
      args = values_more argument value c.deref-term-items.result.now c.loop-term.term-index c.term-item.result c.loop-term.atom.args (ground c.in-Some.value) c.loop-term-test.true c.term-item.is c.loop-term.invariant.args some ∙ ap (λ l. Some l) (sym more);
      few = omega (arith, ap length more ∙ length_push c.loop-term.atom.args _, c.loop-term.invariant.few);
    }

pub returns-clause-made : goal.returns-clause-made
returns-clause-made g c = λ yes.
    let value = value_under (bound_at c.args.binding.now) in
    let all : all_values value (map argument c.args.pattern.now.terms.items) ≡ Some c.loop-term.atom.args =
    ap (λ ts. all_values value (map argument ts)) (sym c.deref-term-items.ensures.value ∙ sym (take_all c.loop-term.term-index c.deref-term-items.result.now c.loop-term-test.false)) ∙ c.loop-term.invariant.args in
    atom_by_values value (shape c.args.pattern.now) c.loop-term.atom (sym c.loop-term.invariant.name) all
