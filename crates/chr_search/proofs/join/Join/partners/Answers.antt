use Rattle.std.proofs.Common.{◌≡◌, ◌-◌, ◌≤◌, Some, refl, sym, subst, ◌∙◌, ap, arith}
use Rattle.std.proofs.lemmas.Option.{IfSome_then}
use Rattle.chr_index.proofs.Slots.{get_there}
use Rattle.chr_value.specs.Atoms.{said}
use Rattle.chr_rule.specs.Parts.{argument, shape}
use Rattle.chr_guard.specs.Bindings.{bound_at}
use Rattle.chr_store.specs.Keys.{key_of}
use Rattle.chr_search.specs.declared.join.Asked.{Asked}
use Rattle.chr_search.specs.Joined.{join_of}
use Rattle.chr_search.specs.Partners.{KeyIs, IsAskedFor, keyed_at, key_value}
use Rattle.chr_search.proofs.Partners.{least_partner}
use Rattle.chr_search.proofs.Asking.{IsKeyed, keyed, keyed_term, key_some, asked}
use Rattle.chr_search.proofs.join.Join.partners.Goals.{After-pred_of-pred, Joined-at, in-None, in-Some+in_ok-term-in-Some+in_ok-value-in-Some}
use Rattle.chr_search.proofs.join.Join.partners.Goals as goal

-- what the head has at the key's place
here : (g : _) (c : After-pred_of-pred g) (place : _) → c.args.at.step.key ≡ Some place → IsKeyed (join_of c.args.self.now) c.args.labels.now c.args.binding.now c.args.at.step (shape c.args.at.head.now) place
here g c = keyed (join_of c.args.self.now) c.requires.plan _ _ c.requires.some c.requires.ready _ c.requires.at.step_is (shape c.args.at.head.now) c.requires.at.head_is

pub overflow_sub-from : goal.overflow_sub-from
overflow_sub-from g c =
    let low = (here g (goal.at.overflow_sub-from g c).After-pred_of-pred c.in-Some.place c.in-Some.is).low in
    omega (arith, low, c.from.ensures)

-- the key is what the head has there
key : (g : _) (c : Joined-at g) → ((place : _) → c.args.at.step.key ≡ Some place → 1 ≤ place) → KeyIs (bound_at c.args.binding.now) (shape c.args.at.head.now) c.args.at.step.key (key_of c.match-at.key)
key g c low =
    let v = bound_at c.args.binding.now in
    let s = shape c.args.at.head.now in
    elim c.match-at.branch [
      | in-None w ↦ subst (λ place. KeyIs v s place (key_of c.match-at.key)) (sym w.in-None.is) (ap key_of w.key-is)
      | in-Some+in_ok-term-in-Some+in_ok-value-in-Some w ↦
          let place = w.in-Some.place in
          let term = w.in_ok-term-in-Some.term.now in
          let found : keyed_at v s place ≡ key_value v (Some (argument term)) =
          keyed_term v c.args.at.head.now w.deref.result.now place w.from.result (low place w.in-Some.is) w.from.ensures w.deref.ensures.value (Some term)
          (get_there w.deref.result.now (w.from.result - 1) term w.in_ok-term-in-Some.ensures.lookup.0 w.in_ok-term-in-Some.ensures.lookup.1) in
          key_some v s c.args.at.step.key (key_of c.match-at.key) place (said w.in_ok-value-in-Some.value) w.in-Some.is (found ∙ sym w.in_ok-value-in-Some.ensures) (ap key_of w.key-is)
    ]

pub returns : goal.returns
returns g c =
    let j = join_of c.args.self.now in
    let at = (goal.at.returns g c).After-pred_of-pred in
    let question : Asked g.row.A.Denot = record { pred = c.pred_of-pred.result; key = c.match-at.key } in
    let is : IsAskedFor j c.args.labels.now c.args.binding.now question = record {
      step = c.args.at.step;
      step_is = c.requires.at.step_is;
      head = shape c.args.at.head.now;
      head_is = c.requires.at.head_is;
      name = c.pred_of-pred.ensures.name;
      arity = c.pred_of-pred.ensures.arity;
      key = key g (goal.at.returns g c).Joined-at (λ place k. (here g at place k).low);
    } in
    IfSome_then c.matches.result c.matches.ensures.least (λ among among_least from found least.
    least_partner j c.args.labels.now c.args.binding.now from _
    (asked j c.args.labels.now c.args.binding.now from question _ (from - 1) _ c.requires.some c.requires.ready is refl refl c.active-given.ensures.labelled.given)
    found (among_least (from - 1) found least))
