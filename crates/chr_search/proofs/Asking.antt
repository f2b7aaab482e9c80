-- What is asked of a store for the next partner, and what its answer says.
use Rattle.chr_search.specs.Passing.{IsNarrowedIf}
use Rattle.std.proofs.Common.{◌≡◌, ◌≢◌, ◌↔◌, ℕ, zero, suc, ◌+◌, ◌-◌, ◌<◌, ◌≤◌, Bool, true, false, IsTrue, ltb, ◌&&◌, ◌||◌, ◌==◌, take, drop, List, [], ◌∷◌, ◌++◌, length, replicate, Option, Some, None, IsSome, slice_get, refl, sym, ◌∙◌, ap, ap₂, subst, arith, length-append}
use Rattle.std.specs.List.{list_any}
use Rattle.std.specs.Option.{option_map}
use Rattle.std.proofs.lemmas.Bool.Decides.{nat_tests}
use Rattle.std.proofs.lemmas.Option.{slice_get_within, slice_get_past, slice_get-map, get_or_from_slice_get}
use Rattle.chr_value.specs.Atoms.{Value, Atom}
use Rattle.chr_value.specs.declared.atom.Pred.{Pred}
use Rattle.chr_value.proofs.Chosen.{some_is}
use Rattle.chr_rule.specs.Parts.{argument, shape}
use Rattle.chr_rule.specs.Rules.{RuleAtom, head_at}
use Rattle.chr_rule.proofs.Index.{head_there}
use Rattle.chr_rule.specs.declared.rule_atom.RuleAtom.{RuleAtom as CodeRuleAtom}
use Rattle.chr_rule.specs.declared.term.Term.{Term as CodeTerm}
use Rattle.chr_guard.specs.Values.{Valuation}
use Rattle.chr_guard.specs.Bindings.{bound_at, Extends, NarrowsIf}
use Rattle.chr_guard.specs.Instances.{atom_under}
use Rattle.chr_guard.proofs.Bindings.{free_extends}
use Rattle.chr_model.specs.Stores.{atom_at, among}
use Rattle.chr_plan.specs.Orders.{heads_of, first_step}
use Rattle.chr_plan.specs.declared.order.Step.{Step}
use Rattle.chr_store.specs.Labels.{GivenBefore}
use Rattle.chr_search.specs.Tree.{Grows}
use Rattle.chr_search.specs.Trials.{Join, StandsAt, HasHeadPred, MayFollow, IsInTurn}
use Rattle.chr_search.specs.declared.join.Asked.{Asked}
use Rattle.chr_search.specs.Partners.{HasPlan, IsReady, key_value, keyed_at, KeyIs, key_in, IsAskedFor, IsPartnerFrom}
use Rattle.chr_search.proofs.Plans.{IsWithin, order_of_plan, step_keyed}
use Rattle.chr_search.proofs.Following.{follows_live, follows_at}
use Rattle.chr_search.proofs.Partners.{IsAsked, fit_last, ready_more, no_fit, older_than_first}
use Rattle.chr_search.proofs.Making.{label_bounds}
use Rattle.std.proofs.lemmas.List.{length-replicate, take_at}
use Rattle.std.proofs.lemmas.List.Elements.{All-from_recursion}

pub any_among : (ls : List ℕ) (l : ℕ) → list_any (λ y. y == l) ls ≡ among ls l
any_among [] l = refl
any_among (x ∷ ls) l = ap (λ b. (x == l) || b) (any_among ls l)

-- a label that may follow is one of the labels before it where it is one of these but the first
among_others : (ls : List ℕ) (l : ℕ) → ((first : ℕ) (others : List ℕ) → ls ≡ first ∷ others → first ≢ l) → list_any (λ y. y == l) (drop 1 ls) ≡ among ls l
among_others [] l away = refl
among_others (x ∷ ls) l away = let apart : x ≢ l = away x ls refl in let rest = any_among ls l in grind (arith, nat_tests)

pub told_among : (j : Join) → j.bound ≡ j.active → (ls others : List ℕ) (l : ℕ) → Grows (MayFollow j) [] ls → MayFollow j ls l → others ≡ drop 1 ls → (told : Bool) → told ≡ list_any (λ y. y == l) others → among ls l ≡ told
told_among j same ls others l g m are told e = sym (among_others ls l (older_than_first j same ls l g m)) ∙ ap (list_any (λ y. y == l)) (sym are) ∙ sym e

pub past_get : {A : Type 0} (xs : List A) (i : ℕ) → false ≡ ltb i (length xs) → slice_get xs i ≡ None
past_get xs i t = slice_get_past xs i (let h : length xs ≤ i = grind (arith, nat_tests) in h)

-- a head stands at a label
pub stands_is : (j : Join) (step : Step) (l : ℕ) (s : RuleAtom ℕ) (a : Atom ℕ) → head_at j.rule step.head ≡ Some s → atom_at j.store l ≡ Some a → (v : Valuation) → (atom_under v s ≡ Some a) ↔ StandsAt j v step l
stands_is j step l s a hs at v = (
  λ u. record { atom = a; live = at; fits = ap (option_map (atom_under v)) hs ∙ ap (λ x. Some x) u },
  λ t.
      let same : t.atom ≡ a = some_is t.atom a (sym t.live ∙ at) in
      let under : atom_under v s ≡ Some t.atom = some_is (atom_under v s) (Some t.atom) (sym (ap (option_map (atom_under v)) hs) ∙ t.fits) in
      under ∙ ap (λ x. Some x) same,
)

pub free_ready : (j : Join) (n : ℕ) (binding : List (Option (Value ℕ))) → n ≡ j.rule.variables → binding ≡ replicate n None → IsReady j [] binding
free_ready j n binding e f = record {
  distinct = tt;
  fit = record {
    places = ap length f ∙ length-replicate n None ∙ e;
    exactly = λ v. (λ x. tt, λ x. subst (Extends v) (sym f) (free_extends v n));
  };
}

-- there is room for a label that may follow
pub room : (j : Join) → HasPlan j → (labels : List ℕ) (x : ℕ) → MayFollow j labels x → length labels < 6
room j p labels x m =
    let count = (order_of_plan (heads_of j.rule) p.head j.order p.from p.to p.plan).count in
    omega (arith, slice_get_within j.order (length labels) m.step m.step_is, count, p.scoped.limits.heads, length-append j.rule.kept j.rule.removed)

-- each step of a plan names one of the rule's heads
pub step_head : (j : Join) → HasPlan j → (i : ℕ) (step : Step) → slice_get j.order i ≡ Some step → IsSome (head_at j.rule step.head)
step_head j p i step at =
    let all = (order_of_plan (heads_of j.rule) p.head j.order p.from p.to p.plan).within in
    let within : IsWithin (length (heads_of j.rule)) step = subst (IsWithin (length (heads_of j.rule))) (get_or_from_slice_get j.order i step step at) (All-from_recursion (IsWithin (length (heads_of j.rule))) j.order all i step (slice_get_within j.order i step at)) in
    head_there j.rule step.head (omega (arith, within.0)) (omega (arith, within.1, length-append j.rule.kept j.rule.removed))

-- the next head, and what it has at the key's place
pub record IsKeyed (j : Join) (labels : List ℕ) (binding : List (Option (Value ℕ))) (step : Step) (head : RuleAtom ℕ) (place : ℕ) : Type 0 where
  pub step_is : slice_get j.order (length labels) ≡ Some step
  pub head_is : head_at j.rule step.head ≡ Some head
  pub low : 1 ≤ place
  pub value : Value ℕ
  pub value_is : keyed_at (bound_at binding) head place ≡ Some value

place_low : (v : Valuation) (head : RuleAtom ℕ) (place : ℕ) (x : Value ℕ) → keyed_at v head place ≡ Some x → 1 ≤ place
place_low v head zero x e = absurd (let z : None ≡ Some x = e in cc)
place_low v head (suc i) x e = omega arith

pub keyed : (j : Join) → HasPlan j → (labels : List ℕ) (binding : List (Option (Value ℕ))) → 1 ≤ length labels → IsReady j labels binding → (step : Step) → slice_get j.order (length labels) ≡ Some step → (head : RuleAtom ℕ) → head_at j.rule step.head ≡ Some head → (place : ℕ) → step.key ≡ Some place → IsKeyed j labels binding step head place
keyed j p labels binding some r step at head is place key =
    let known = step_keyed j p.head (bound_at binding) labels step head place p.plan some ((r.fit.exactly (bound_at binding)).0 (λ x t e. e)) at is key in
    record { step_is = at; head_is = is; low = place_low (bound_at binding) head place known.0 known.1; value = known.0; value_is = known.1 }

-- that is the value of the term that is found there
pub keyed_term : {Z : Type 0} (v : Valuation) (head : CodeRuleAtom Z) (terms : List (CodeTerm Z)) (place at : ℕ) → 1 ≤ place → at ≡ place → terms ≡ head.terms.items → (o : Option (CodeTerm Z)) → slice_get terms (at - 1) ≡ o → keyed_at v (shape head) place ≡ key_value v (option_map argument o)
keyed_term v head terms zero at low same is o there = absurd (omega arith)
keyed_term v head terms (suc i) at low same is o there =
    let index : i ≡ at - 1 = omega arith in
    let found : slice_get head.terms.items i ≡ o = ap₂ (λ xs n. slice_get xs n) (sym is) index ∙ there in
    ap (key_value v) (slice_get-map argument head.terms.items i ∙ ap (option_map argument) found)

pub key_some : (v : Valuation) (head : RuleAtom ℕ) (place : Option ℕ) (key : Option (ℕ × Value ℕ)) (p : ℕ) (x : Value ℕ) → place ≡ Some p → keyed_at v head p ≡ Some x → key ≡ Some (p, x) → KeyIs v head place key
key_some v head place key p x e g f = subst (λ q. KeyIs v head q key) (sym e) (x, g, f)

pub asked : {Z : Type 0} (j : Join) (labels : List ℕ) (binding : List (Option (Value ℕ))) (from : ℕ) (a : Asked Z) (key : Option (ℕ × Value ℕ)) (after next : ℕ) → 1 ≤ length labels → IsReady j labels binding → IsAskedFor j labels binding a → key ≡ key_in a → after ≡ from - 1 → GivenBefore next j.store → IsAsked j labels binding from (record { pred = a.pred; key = key; after = after; below = j.bound })
asked j labels binding from a key after next some r f k e g = record {
  some = some;
  ready = r;
  step = f.step;
  step_is = f.step_is;
  head = f.head;
  head_is = f.head_is;
  name = f.name;
  arity = f.arity;
  key = subst (KeyIs (bound_at binding) f.head f.step.key) (sym k) f.key;
  over = λ l low. (λ le. omega arith, λ lt. omega arith);
  under = refl;
  labelled = λ l a there. (label_bounds next j.store g l a there).0;
}

-- labels that may follow are numbered from 1, so that from 0 and from 1 are the same to look from
pub follows_low : (j : Join) (next : ℕ) → GivenBefore next j.store → (ls : List ℕ) (x : ℕ) → MayFollow j ls x → 1 ≤ x
follows_low j next g ls x m = (label_bounds next j.store g x m.atom m.live).0

pub partner_from : (j : Join) (next : ℕ) → GivenBefore next j.store → (ls : List ℕ) (from after : ℕ) → after ≡ from - 1 → (found : Option ℕ) → IsPartnerFrom j ls (after + 1) found → IsPartnerFrom j ls from found
partner_from j next g ls from after e None n = λ x m low. n x m (omega (arith, follows_low j next g ls x m))
partner_from j next g ls from after e (Some l) n = record { holds = n.holds; there = omega (arith, n.there); least = λ x m low. n.least x m (omega (arith, follows_low j next g ls x m)) }

-- the active label may begin
pub begins_by : (j : Join) (h : ℕ) (head : RuleAtom ℕ) (atom : Atom ℕ) → slice_get j.order 0 ≡ Some (first_step (heads_of j.rule) h) → head_at j.rule h ≡ Some head → atom_at j.store j.active ≡ Some atom → HasHeadPred head atom → MayFollow j [] j.active
begins_by j h head atom at is live pred = follows_live j [] j.active refl tt (λ x. None) tt (first_step (heads_of j.rule) h) at (record { head = head; head_is = is; atom = atom; live = live; pred = pred }) tt

pub begins_if : (j : Join) → HasPlan j → (step : Step) (head : RuleAtom ℕ) (atom : Atom ℕ) → slice_get j.order 0 ≡ Some step → head_at j.rule step.head ≡ Some head → atom_at j.store j.active ≡ Some atom → HasHeadPred head atom → MayFollow j [] j.active
begins_if j p step head atom at is live pred =
    let first : slice_get j.order 0 ≡ Some (first_step (heads_of j.rule) p.head) = ap (λ (z : List Step). slice_get z 0) p.plan.first in
    let same : step ≡ first_step (heads_of j.rule) p.head = some_is step (first_step (heads_of j.rule) p.head) (sym at ∙ first) in
    begins_by j p.head head atom first (subst (λ (x : Step). head_at j.rule x.head ≡ Some head) same is) live pred

pub begins_pred : (j : Join) (step : Step) (head : RuleAtom ℕ) (atom : Atom ℕ) → slice_get j.order 0 ≡ Some step → head_at j.rule step.head ≡ Some head → atom_at j.store j.active ≡ Some atom → MayFollow j [] j.active → HasHeadPred head atom
begins_pred j step head atom at is live m =
    let s : m.step ≡ step = some_is m.step step (sym m.step_is ∙ at) in
    let h : m.head ≡ head = some_is m.head head (sym m.head_is ∙ ap (λ (x : Step). head_at j.rule x.head) s ∙ is) in
    let a : m.atom ≡ atom = some_is m.atom atom (sym m.live ∙ live) in
    subst (λ x. HasHeadPred x atom) h (subst (λ x. HasHeadPred m.head x) a m.pred)

-- comparing predicates
pub pred_decides : (told : Bool) (p q : Pred) (head : RuleAtom ℕ) (atom : Atom ℕ) → told ≡ ((p.name.number == q.name.number) && (p.arity == q.arity)) → p.name.number ≡ atom.name → p.arity ≡ length atom.args → q.name.number ≡ head.name → q.arity ≡ length head.args → IsTrue told ↔ HasHeadPred head atom
pred_decides told p q head atom e pn pa qn qa = (λ t. (grind (arith, nat_tests), grind (arith, nat_tests)), λ h. grind (arith, nat_tests))

-- what is left of a list when its last number is taken off
pub front : (xs : List ℕ) (x : ℕ) (left all : List ℕ) → all ≡ xs ++ x ∷ [] → left ≡ take (length all - 1) all → left ≡ xs
front xs x left all e l = l ∙ ap (λ z. take (length z - 1) z) e ∙ take_at xs (x ∷ []) (length (xs ++ x ∷ []) - 1) (omega (arith, length-append xs (x ∷ [])))

-- one label more
pub narrowed_by : (j : Join) → HasPlan j → (ls : List ℕ) (old new : List (Option (Value ℕ))) (step : Step) (l : ℕ) → IsReady j ls old → slice_get j.order (length ls) ≡ Some step → among ls l ≡ false → IsInTurn j ls l → (told : Bool) → NarrowsIf (λ v. StandsAt j v step l) told old new → IsNarrowedIf j ls l told new
narrowed_by j p ls old new step l r at away turn true n =
    let more = ready_more j ls old new step l r at away n in
    let f = (fit_last j (bound_at new) j.order ls step l at).0 ((more.fit.exactly (bound_at new)).0 (λ x t e. e)) in
    (follows_at j p.head p.plan (bound_at new) ls l turn r.distinct step at f.0 f.1, more)
narrowed_by j p ls old new step l r at away turn false n = λ m x f. no_fit j ls old step l x r at n f
