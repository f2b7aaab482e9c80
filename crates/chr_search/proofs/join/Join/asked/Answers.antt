use Rattle.std.proofs.Common.{◌≡◌, ◌-◌, ◌≤◌, length, Some, None, refl, sym, subst, ◌∙◌, arith}
use Rattle.chr_index.proofs.Slots.{get_there}
use Rattle.chr_value.specs.Atoms.{said}
use Rattle.chr_rule.specs.Parts.{argument, shape}
use Rattle.chr_rule.specs.Rules.{head_at}
use Rattle.chr_guard.specs.Bindings.{bound_at}
use Rattle.chr_search.specs.Partners.{key_value, keyed_at}
use Rattle.chr_search.specs.Joined.{join_of}
use Rattle.chr_search.proofs.Asking.{IsKeyed, past_get, keyed, keyed_term, key_some}
use Rattle.chr_search.proofs.join.Join.asked.Goals.{In-Some, In_ok-term}
use Rattle.chr_search.proofs.join.Join.asked.Goals as goal

-- the next head, and what it has at the key's place
here : (g : _) (c : In-Some g) → IsKeyed (join_of c.args.self.now) c.args.labels.now c.args.binding.now c.in_ok-step.step.now (shape c.in_ok-head.head.now) c.in-Some.place
here g c =
    keyed (join_of c.args.self.now) c.requires.plan _ _ c.requires.some c.requires.ready _
    (get_there c.args.self.now.order.now (length c.args.labels.now) c.in_ok-step.step.now c.in_ok-step.ensures.lookup.0 c.in_ok-step.ensures.lookup.1)
    (shape c.in_ok-head.head.now) (subst (λ n. head_at c.args.self.now.rule.now n ≡ Some (shape c.in_ok-head.head.now)) c.from.ensures (sym c.in_ok-head.ensures.head)) c.in-Some.place c.in-Some.is

pub overflow_sub-from : goal.overflow_sub-from
overflow_sub-from g c = omega (arith, (here g (goal.at.overflow_sub-from g c).In-Some).low, c.from-2.ensures)

pub returns-in_err-term : goal.returns-in_err-term
returns-in_err-term g c =
    let here = here g (goal.at.returns-in_err-term g c).In-Some in
    let none = keyed_term (bound_at c.args.binding.now) c.in_ok-head.head.now c.deref.result.now c.in-Some.place c.from-2.result here.low c.from-2.ensures c.deref.ensures.value None (past_get c.deref.result.now (c.from-2.result - 1) c.in_err-term.ensures.lookup.0) in
    let z : None ≡ Some here.value = sym none ∙ here.value_is in
    absurd (cc)

-- the value of the term that is found there
found : (g : _) (c : In_ok-term g) → 1 ≤ c.in-Some.place → keyed_at (bound_at c.args.binding.now) (shape c.in_ok-head.head.now) c.in-Some.place ≡ key_value (bound_at c.args.binding.now) (Some (argument c.in_ok-term.term.now))
found g c low =
    keyed_term (bound_at c.args.binding.now) c.in_ok-head.head.now c.deref.result.now c.in-Some.place c.from-2.result low c.from-2.ensures c.deref.ensures.value (Some c.in_ok-term.term.now)
    (get_there c.deref.result.now (c.from-2.result - 1) c.in_ok-term.term.now c.in_ok-term.ensures.lookup.0 c.in_ok-term.ensures.lookup.1)

pub returns-in_err-value : goal.returns-in_err-value
returns-in_err-value g c =
    let at = goal.at.returns-in_err-value g c in
    let here = here g at.In-Some in
    let z : None ≡ Some here.value = c.in_err-value.ensures ∙ sym (found g at.In_ok-term here.low) ∙ here.value_is in
    absurd (cc)

pub returns : goal.returns
returns g c =
    let at = goal.at.returns g c in
    let here = here g at.In-Some in
    record {
      step = c.in_ok-step.step.now;
      step_is = here.step_is;
      head = shape c.in_ok-head.head.now;
      head_is = here.head_is;
      name = c.pred_of-pred.ensures.name;
      arity = c.pred_of-pred.ensures.arity;
      key = key_some (bound_at c.args.binding.now) (shape c.in_ok-head.head.now) c.in_ok-step.step.now.key (Some (c.in-Some.place, said c.in_ok-value.value)) c.in-Some.place (said c.in_ok-value.value) c.in-Some.is (found g at.In_ok-term here.low ∙ sym c.in_ok-value.ensures) refl;
    }
