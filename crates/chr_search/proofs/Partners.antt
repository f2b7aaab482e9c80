-- Labels to which partners are added, one after another.
use Rattle.chr_value.proofs.Chosen.{some_is}
use Rattle.std.proofs.lemmas.Option.{slice_get_within}
use Rattle.std.proofs.Common.{◌≡◌, ◌≢◌, ◌↔◌, ℕ, zero, suc, ◌+◌, ◌<◌, ◌≤◌, Bool, true, false, ltb, MatchBool, List, [], ◌∷◌, ◌++◌, length, Option, Some, None, MatchOption, slice_get, refl, sym, ◌∙◌, ap, subst, arith, ◌⊎◌, inl, inr, true≢false, length-append}
use Rattle.std.proofs.lemmas.Bool.Decides.{nat_tests}
use Rattle.chr_value.specs.Atoms.{Value, Atom}
use Rattle.chr_rule.specs.Rules.{Term, Var, RuleAtom, head_at}
use Rattle.chr_guard.specs.Values.{Valuation}
use Rattle.chr_guard.specs.Bindings.{bound_at, Extends, Narrows, NoneUnder}
use Rattle.chr_model.specs.Stores.{atom_at, among, Distinct}
use Rattle.chr_plan.specs.declared.order.Step.{Step}
use Rattle.chr_store.specs.Keys.{HasKey, Query, Matches, IsLeastMatch}
use Rattle.chr_search.specs.Tree.{Children, Grows, Least, NoneBeyond, LeastFrom, NoneFrom}
use Rattle.chr_search.specs.Trials.{Join, StandsAt, Fit, HasKeyValue, IsInTurn, MayFollow}
use Rattle.chr_search.specs.Partners.{IsReady, LengthenedIf, key_value, keyed_at, KeyIs}
use Rattle.chr_search.proofs.Tree.{Come, come_first, come_at, come_to_end, come_on, come_to, come_past}
use Rattle.chr_search.proofs.Following.{follows_live}
use Rattle.chr_search.proofs.Plans.{distinct_push, among_push, keyed_given}

-- one label more
pub fit_last : (j : Join) (v : Valuation) (steps : List Step) (before : List ℕ) (step : Step) (l : ℕ) → slice_get steps (length before) ≡ Some step → Fit j v steps (before ++ l ∷ []) ↔ (Fit j v steps before × StandsAt j v step l)
fit_last j v [] before step l at = absurd (let z : None ≡ Some step = at in cc)
fit_last j v (x ∷ steps) [] step l at = subst (λ y. (StandsAt j v x l × Unit {0}) ↔ (Unit {0} × StandsAt j v y l)) (some_is x step at) (λ f. (tt, f.0), λ f. (f.1, tt))
fit_last j v (x ∷ steps) (k ∷ before) step l at =
    let r = fit_last j v steps before step l at in
    (λ f. let m = r.0 f.1 in ((f.0, m.0), m.1), λ f. (f.0.0, r.1 (f.0.1, f.1)))

pub distinct_less : (xs : List ℕ) (x : ℕ) → Distinct (xs ++ x ∷ []) → among xs x ≡ false
distinct_less [] x d = refl
distinct_less (y ∷ xs) x d = grind (arith, nat_tests, among_push xs x y, d.0, distinct_less xs x d.1)

pub ready_more : (j : Join) (labels : List ℕ) (binding next : List (Option (Value ℕ))) (step : Step) (l : ℕ) → IsReady j labels binding → slice_get j.order (length labels) ≡ Some step → among labels l ≡ false → Narrows (λ v. StandsAt j v step l) binding next → IsReady j (labels ++ l ∷ []) next
ready_more j labels binding next step l r at away n = record {
  distinct = distinct_push labels l r.distinct away;
  fit = record {
    places = n.places ∙ r.fit.places;
    exactly = λ v.
        let last = fit_last j v j.order labels step l at in
        (λ e. let m = (n.exactly v).0 e in last.1 ((r.fit.exactly v).0 m.0, m.1), λ f. let m = last.0 f in (n.exactly v).1 ((r.fit.exactly v).1 m.0, m.1));
  };
}

pub repeated : (j : Join) (labels : List ℕ) (l x : ℕ) → among labels l ≡ true → MayFollow j (labels ++ l ∷ []) x → ⊥
repeated j labels l x there m = true≢false (sym there ∙ distinct_less labels l m.distinct)

pub no_fit : (j : Join) (labels : List ℕ) (binding : List (Option (Value ℕ))) (step : Step) (l x : ℕ) → IsReady j labels binding → slice_get j.order (length labels) ≡ Some step → NoneUnder (λ v. StandsAt j v step l) binding → MayFollow j (labels ++ l ∷ []) x → ⊥
no_fit j labels binding step l x r at n m =
    let f = (fit_last j m.valuation j.order labels step l at).0 m.fits in
    n m.valuation ((r.fit.exactly m.valuation).1 f.0) f.1

pub no_step : (j : Join) (labels : List ℕ) (l x : ℕ) → length j.order ≤ length labels → MayFollow j (labels ++ l ∷ []) x → ⊥
no_step j labels l x past m = omega (arith, slice_get_within j.order (length (labels ++ l ∷ [])) m.step m.step_is, length-append labels (l ∷ []))

-- the keys that a binding gives are those of the valuations that extend it
pub keyed_grows : (v : Valuation) (binding : List (Option (Value ℕ))) → Extends v binding → (head : RuleAtom ℕ) (place : ℕ) (x : Value ℕ) → keyed_at (bound_at binding) head place ≡ Some x → keyed_at v head place ≡ Some x
keyed_grows v binding e head zero x g = g
keyed_grows v binding e head (suc i) x g = by_term (slice_get head.args i) g
  where
    by_term : (o : Option (Term ℕ)) → key_value (bound_at binding) o ≡ Some x → key_value v o ≡ Some x
    by_term (Some (Var y)) h = e y x h
    by_term o h = h

-- what is asked of the store for the next partner
pub record IsAsked (j : Join) (labels : List ℕ) (binding : List (Option (Value ℕ))) (from : ℕ) (q : Query) : Type 0 where
  pub some : 1 ≤ length labels
  pub ready : IsReady j labels binding
  pub step : Step
  pub step_is : slice_get j.order (length labels) ≡ Some step
  pub head : RuleAtom ℕ
  pub head_is : head_at j.rule step.head ≡ Some head
  pub name : q.pred.name.number ≡ head.name
  pub arity : q.pred.arity ≡ length head.args
  pub key : KeyIs (bound_at binding) head step.key q.key
  pub over : (l : ℕ) → 1 ≤ l → (from ≤ l) ↔ (q.after < l)
  pub under : q.below ≡ j.bound
  pub labelled : (l : ℕ) (a : Atom ℕ) → atom_at j.store l ≡ Some a → 1 ≤ l

has_key : (v : Valuation) (binding : List (Option (Value ℕ))) → Extends v binding → (head : RuleAtom ℕ) (place : Option ℕ) (key : Option (ℕ × Value ℕ)) (a : Atom ℕ) → KeyIs (bound_at binding) head place key → HasKeyValue v head place a → HasKey key a
has_key v binding e head None key a k h = subst (λ o. HasKey o a) (sym k) tt
has_key v binding e head (Some p) key a k h =
    let same : h.0 ≡ k.0 = some_is h.0 k.0 (sym h.1 ∙ keyed_given v head p k.0 (keyed_grows v binding e head p k.0 k.1)) in
    subst (λ o. HasKey o a) (sym k.2) (h.2 ∙ ap (λ x. Some x) same)

has_value : (binding : List (Option (Value ℕ))) (head : RuleAtom ℕ) (place : Option ℕ) (key : Option (ℕ × Value ℕ)) (a : Atom ℕ) → KeyIs (bound_at binding) head place key → HasKey key a → HasKeyValue (bound_at binding) head place a
has_value binding head None key a k h = tt
has_value binding head (Some p) key a k h = (k.0, keyed_given (bound_at binding) head p k.0 k.1, subst (λ o. HasKey o a) k.2 h)

in_turn : (j : Join) (labels : List ℕ) (l : ℕ) → 1 ≤ length labels → IsInTurn j labels l ↔ (l < j.bound)
in_turn j [] l some = absurd (omega arith)
in_turn j (x ∷ labels) l some = (λ t. t, λ t. t)

asked_for : (j : Join) (labels : List ℕ) (binding : List (Option (Value ℕ))) (from : ℕ) (q : Query) → IsAsked j labels binding from q → (l : ℕ) → from ≤ l → MayFollow j labels l → Matches j.store q l
asked_for j labels binding from q a l low m =
    let step : m.step ≡ a.step = some_is m.step a.step (sym m.step_is ∙ a.step_is) in
    let head : m.head ≡ a.head = some_is m.head a.head (sym m.head_is ∙ ap (λ (x : Step). head_at j.rule x.head) step ∙ a.head_is) in
    let extends = (a.ready.fit.exactly m.valuation).1 m.fits in
    let key : HasKeyValue m.valuation a.head a.step.key m.atom = subst (λ x. HasKeyValue m.valuation x a.step.key m.atom) head (subst (λ (x : Step). HasKeyValue m.valuation m.head x.key m.atom) step m.key) in
    record {
      atom = m.atom;
      there = m.live;
      pred = (m.pred.0 ∙ ap (λ (x : RuleAtom ℕ). x.name) head ∙ sym a.name, m.pred.1 ∙ ap (λ (x : RuleAtom ℕ). length x.args) head ∙ sym a.arity);
      key = has_key m.valuation binding extends a.head a.step.key q.key m.atom a.key key;
      over = (a.over l (a.labelled l m.atom m.live)).0 low;
      under = subst (λ x. l < x) (sym a.under) ((in_turn j labels l a.some).0 m.turn);
    }

found_follows : (j : Join) (labels : List ℕ) (binding : List (Option (Value ℕ))) (from : ℕ) (q : Query) → IsAsked j labels binding from q → (l : ℕ) → Matches j.store q l → MayFollow j labels l
found_follows j labels binding from q a l m =
    let turn = (in_turn j labels l a.some).1 (subst (λ x. l < x) a.under m.under) in
    let fits = (a.ready.fit.exactly (bound_at binding)).0 (λ x t e. e) in
    follows_live j labels l turn a.ready.distinct (bound_at binding) fits a.step a.step_is (record { head = a.head; head_is = a.head_is; atom = m.atom; live = m.there; pred = (m.pred.0 ∙ a.name, m.pred.1 ∙ a.arity) }) (has_value binding a.head a.step.key q.key m.atom a.key m.key)

pub least_partner : (j : Join) (labels : List ℕ) (binding : List (Option (Value ℕ))) (from : ℕ) (q : Query) → IsAsked j labels binding from q → (found : Option ℕ) → IsLeastMatch j.store q found → MatchOption found (NoneFrom (MayFollow j labels) from) (LeastFrom (MayFollow j labels) from)
least_partner j labels binding from q a None n = λ l m low. n l (asked_for j labels binding from q a l low m)
least_partner j labels binding from q a (Some l) n = record {
  holds = found_follows j labels binding from q a l n.0;
  there = (a.over l (a.labelled l n.0.atom n.0.there)).1 n.0.over;
  least = λ m f low. n.1 m (asked_for j labels binding from q a m low f);
}

-- what a search at a place below a list comes to
come_least : (C : Children) (d : ℕ) (path place : List ℕ) (from : ℕ) (below found : List ℕ) → Come C d path place from below → Least C d path (from ∷ below) found → Least C d path place found
come_least C d path place from below found c l = record {
  more = l.more;
  is = l.is;
  beyond = record { grows = l.beyond.grows; deep = l.beyond.deep; there = c.back l.more l.beyond.there };
  least = λ other b. l.least other (record { grows = b.grows; deep = b.deep; there = c.into other b });
}

come_none : (C : Children) (d : ℕ) (path place : List ℕ) (from : ℕ) (below : List ℕ) → Come C d path place from below → NoneBeyond C d path (from ∷ below) → NoneBeyond C d path place
come_none C d path place from below c n other b = n other (record { grows = b.grows; deep = b.deep; there = c.into other b })

-- the least label at or after the place is the least there, unless the place goes on below it
pub lengthened : (j : Join) (labels : List ℕ) (first : ℕ) (below : List ℕ) (l : ℕ) → LeastFrom (MayFollow j labels) first l → (l ≢ first) ⊎ (below ≡ []) → Least (MayFollow j) 1 labels (first ∷ below) (labels ++ l ∷ [])
lengthened j labels first below l f = come_to (MayFollow j) 1 labels (first ∷ below) first below l (come_at (MayFollow j) 1 labels first below) f (omega (arith, length-append labels (l ∷ [])))

pub lengthened_none : (j : Join) (labels : List ℕ) (first : ℕ) (below : List ℕ) → NoneFrom (MayFollow j labels) first → NoneBeyond (MayFollow j) 1 labels (first ∷ below)
lengthened_none j labels first below n = come_to_end (MayFollow j) 1 labels (first ∷ below) first below (come_at (MayFollow j) 1 labels first below) n

-- or the least below it
pub lengthened_at : (j : Join) (labels : List ℕ) (first : ℕ) (below new : List ℕ) → MayFollow j labels first → Least (MayFollow j) 1 (labels ++ first ∷ []) below new → Least (MayFollow j) 1 labels (first ∷ below) new
lengthened_at j labels first below new m l = come_on (MayFollow j) 1 labels (first ∷ below) first below new (come_at (MayFollow j) 1 labels first below) m l

-- and past the place's first label, where there is none below it
pub on_past : (j : Join) (labels mid : List ℕ) (first : ℕ) (below : List ℕ) → (MayFollow j labels first → NoneBeyond (MayFollow j) 1 (labels ++ first ∷ []) below) → mid ≡ labels → (told : Bool) (new : List ℕ) → LengthenedIf j ((first + 1) ∷ []) told mid new → LengthenedIf j (first ∷ below) told labels new
on_past j labels mid first below none same told new l =
    by_told told (subst (λ z. LengthenedIf j ((first + 1) ∷ []) told z new) same l) (come_past (MayFollow j) 1 labels (first ∷ below) first below (come_at (MayFollow j) 1 labels first below) none)
  where
    by_told : (b : Bool) → LengthenedIf j ((first + 1) ∷ []) b labels new → Come (MayFollow j) 1 labels (first ∷ below) (first + 1) [] → LengthenedIf j (first ∷ below) b labels new
    by_told true k c = come_least (MayFollow j) 1 labels (first ∷ below) (first + 1) [] new c k
    by_told false k c = (come_none (MayFollow j) 1 labels (first ∷ below) (first + 1) [] c k.0, k.1)

-- no partner is at or above the bound, and no label above the active one may follow
pub none_from_bound : (j : Join) (labels : List ℕ) (from : ℕ) → 1 ≤ length labels → j.bound ≤ from → NoneFrom (MayFollow j labels) from
none_from_bound j labels from some high l m low = omega (arith, (in_turn j labels l some).0 m.turn)

pub turn_low : (j : Join) → j.bound ≡ j.active → (labels : List ℕ) (l : ℕ) → IsInTurn j labels l → l ≤ j.active
turn_low j same [] l t = let e : l ≡ j.active = t in omega arith
turn_low j same (x ∷ labels) l t = let e : l < j.bound = t in omega arith

-- a partner is older than the first label, which is the active one
pub older_than_first : (j : Join) → j.bound ≡ j.active → (labels : List ℕ) (l : ℕ) → Grows (MayFollow j) [] labels → MayFollow j labels l → (first : ℕ) (others : List ℕ) → labels ≡ first ∷ others → first ≢ l
older_than_first j same [] l g m first others e = absurd (cc)
older_than_first j same (x ∷ xs) l g m first others e = λ q.
    let active : x ≡ j.active = g.0.turn in
    let low : l < j.bound = m.turn in
    let is : x ≡ first = cc in
    absurd (omega arith)

pub none_above : (j : Join) → j.bound ≡ j.active → (labels : List ℕ) (from : ℕ) → j.active < from → NoneFrom (MayFollow j labels) from
none_above j same labels from high l m low = omega (arith, turn_low j same labels l m.turn)

-- below a label that doesn't fit
pub none_below : (j : Join) (labels : List ℕ) (l : ℕ) (next : ℕ) (rest : List ℕ) → ((x : ℕ) → MayFollow j (labels ++ l ∷ []) x → ⊥) → NoneBeyond (MayFollow j) 1 (labels ++ l ∷ []) (next ∷ rest)
none_below j labels l next rest n [] b = let z : false ≡ true = b.there in absurd (cc)
none_below j labels l next rest n (y ∷ ys) b = n y b.grows.0

-- the first label
pub none_at_all : (j : Join) (place : List ℕ) → ((x : ℕ) → MayFollow j [] x → ⊥) → NoneBeyond (MayFollow j) 1 [] place
none_at_all j place n [] b = absurd (omega (arith, b.deep))
none_at_all j place n (y ∷ ys) b = n y b.grows.0

active_least : (j : Join) (from : ℕ) → MayFollow j [] j.active → from ≤ j.active → LeastFrom (MayFollow j []) from j.active
active_least j from m low = record { holds = m; there = low; least = λ y f k. omega (arith, f.turn) }

active_past : (j : Join) (from : ℕ) → j.active < from → NoneFrom (MayFollow j []) from
active_past j from h y m low = omega (arith, m.turn)

-- it alone at no place, at its own, and at another one's, if that comes before it
module _ (j : Join) (m : MayFollow j [] j.active) (ls : List ℕ) (own : ls ≡ j.active ∷ []) where
  pub active_first : (place : List ℕ) → length place ≡ 0 → Least (MayFollow j) 1 [] place ls
  active_first [] e =
      subst (Least (MayFollow j) 1 [] []) (sym own)
      (come_to (MayFollow j) 1 [] [] 0 [] j.active (come_first (MayFollow j) 1 [] (omega arith)) (active_least j 0 m (omega arith)) (omega arith) (inr refl))
  active_first (x ∷ place) e = absurd (omega arith)

  pub active_last : (place : List ℕ) (first : ℕ) (below : List ℕ) → place ≡ first ∷ below → first ≡ j.active → length below ≡ 0 → Least (MayFollow j) 1 [] place ls
  active_last place first [] is e none =
      subst (Least (MayFollow j) 1 [] place) (sym own) (subst (λ p. Least (MayFollow j) 1 [] p (j.active ∷ [])) (sym is) (lengthened j [] first [] j.active (active_least j first m (omega arith)) (inr refl)))
  active_last place first (x ∷ below) is e none = absurd (omega arith)

  pub active_other : (place : List ℕ) (first : ℕ) (below : List ℕ) → place ≡ first ∷ below → first ≢ j.active → MatchBool (ltb first j.active) (Least (MayFollow j) 1 [] place ls) (NoneBeyond (MayFollow j) 1 [] place)
  active_other place first below is ne =
      elim (ltb first j.active) as (λ b. (ltb first j.active ≡ b) → MatchBool b (Least (MayFollow j) 1 [] place ls) (NoneBeyond (MayFollow j) 1 [] place)) [
        | true ↦ λ e.
            let less : first < j.active = grind (arith, nat_tests) in
            subst (Least (MayFollow j) 1 [] place) (sym own) (subst (λ p. Least (MayFollow j) 1 [] p (j.active ∷ [])) (sym is) (lengthened j [] first below j.active (active_least j first m (omega arith)) (inl (λ s. ne (sym s)))))
        | false ↦ λ e.
            let more : j.active ≤ first = grind (arith, nat_tests) in
            subst (NoneBeyond (MayFollow j) 1 []) (sym is) (lengthened_none j [] first below (active_past j first (omega arith)))
      ] refl

  -- and partners, or none
  pub active_more : (place : List ℕ) (first : ℕ) (below : List ℕ) → place ≡ first ∷ below → first ≡ j.active → (told : Bool) (new : List ℕ) → LengthenedIf j below told ls new → MatchBool told (Least (MayFollow j) 1 [] place new) (NoneBeyond (MayFollow j) 1 [] place)
  active_more place first below is e true new l =
      subst (λ p. Least (MayFollow j) 1 [] p new) (sym is) (lengthened_at j [] first below new (subst (MayFollow j []) (sym e) m) (subst (λ z. Least (MayFollow j) 1 z below new) (own ∙ ap (λ x. x ∷ []) (sym e)) l))
  active_more place first below is e false new l =
      subst (NoneBeyond (MayFollow j) 1 []) (sym is)
      ((on_past j [] [] first below (λ n. subst (λ z. NoneBeyond (MayFollow j) 1 z below) (own ∙ ap (λ x. x ∷ []) (sym e)) l.0) refl false []
      (lengthened_none j [] (first + 1) [] (active_past j (first + 1) (omega arith)), refl)).0)
