-- A head that only brings new variables takes the arguments of each atom that is found by its key.
use Rattle.std.proofs.Common.{◌≡◌, ℕ, zero, suc, ◌+◌, Bool, true, false, ◌||◌, ◌==◌, if◌then◌else◌, List, [], ◌∷◌, take, length, Option, Some, None, slice_get, get_or-set_other, refl, sym, ◌∙◌, ap, ap₂, subst, arith, inl, inr, true-eqb}
use Rattle.std.specs.Option.{option_map}
use Rattle.std.proofs.lemmas.Bool.Decides.{nat_tests}
use Rattle.chr_value.specs.Atoms.{Value, Comp, Cons, Atom}
use Rattle.chr_value.proofs.Chosen.{some_is}
use Rattle.chr_rule.specs.Rules.{Term, Var, Given, Open, Terms, End, And, RuleAtom, head_at}
use Rattle.chr_guard.specs.Values.{Valuation, both, term_under, terms_under, key_under}
use Rattle.chr_guard.specs.Bindings.{bound_at, Extends}
use Rattle.chr_guard.specs.Instances.{all_values, atom_under}
use Rattle.chr_guard.specs.Matching.{TakeValues, TakesValue, with_term}
use Rattle.chr_model.specs.Stores.{atom_at}
use Rattle.chr_plan.specs.Orders.{heads_of, stands_in, stands_among, has_variable, binds, is_bound, is_new, is_key, are_new, fresh_of, fresh_in, first_step, IsPlan}
use Rattle.chr_plan.specs.declared.order.Step.{Step}
use Rattle.chr_plan.proofs.OnePlan.{each_next_fact}
use Rattle.chr_search.specs.Trials.{Join, Fit, HasKeyValue, MayFollow}
use Rattle.chr_search.specs.Partners.{HasPlan, IsReady, key_value}
use Rattle.chr_search.proofs.Plans.{step_keyed, keyed_given}
use Rattle.chr_search.proofs.Following.{pred_follows}
use Rattle.chr_search.proofs.Partners.{keyed_grows}

-- ---- a variable that no head before has is free

-- a valuation without one variable
abbrev without : Valuation → ℕ → Valuation
without v x y = if y == x then None else v y

mutual
  same_term : (v : Valuation) (x : ℕ) (t : Term ℕ) → stands_in x t ≡ false → term_under (without v x) t ≡ term_under v t
  same_term v x (Var y) h = grind (arith, nat_tests)
  same_term v x (Given b) h = refl
  same_term v x (Open s ts) h = ap (option_map (Comp s)) (same_terms v x ts h)

  same_terms : (v : Valuation) (x : ℕ) (ts : Terms ℕ) → stands_among x ts ≡ false → terms_under (without v x) ts ≡ terms_under v ts
  same_terms v x End h = refl
  same_terms v x (And t ts) h = ap₂ (both (λ a as'. Some (Cons a as'))) (same_term v x t (grind arith)) (same_terms v x ts (grind arith))

same_values : (v : Valuation) (x : ℕ) (ts : List (Term ℕ)) → has_variable x ts ≡ false → all_values (term_under (without v x)) ts ≡ all_values (term_under v) ts
same_values v x [] h = refl
same_values v x (t ∷ ts) h = ap₂ (both (λ a as'. Some (a ∷ as'))) (same_term v x t (grind arith)) (same_values v x ts (grind arith))

same_head : (v : Valuation) (x : ℕ) (o : Option (RuleAtom ℕ)) → binds o x ≡ false → option_map (atom_under (without v x)) o ≡ option_map (atom_under v) o
same_head v x None h = refl
same_head v x (Some head) h = ap (λ values. Some (option_map (λ as'. let a : Atom ℕ = record { name = head.name; args = as' } in a) values)) (same_values v x head.args h)

fit_without : (j : Join) (v : Valuation) (x : ℕ) (steps : List Step) (ls : List ℕ) → is_bound (heads_of j.rule) (take (length ls) steps) x ≡ false → Fit j v steps ls → Fit j (without v x) steps ls
fit_without j v x steps [] h f = tt
fit_without j v x [] (l ∷ ls) h f = f
fit_without j v x (step ∷ steps) (l ∷ ls) h f = (
  record { atom = f.0.atom; live = f.0.live; fits = same_head v x (head_at j.rule step.head) (grind arith) ∙ f.0.fits },
  fit_without j v x steps ls (grind arith) f.1,
)

variable_free : (j : Join) (ls : List ℕ) (binding : List (Option (Value ℕ))) → IsReady j ls binding → (x : ℕ) → is_bound (heads_of j.rule) (take (length ls) j.order) x ≡ false → bound_at binding x ≡ None
variable_free j ls binding r x h =
    let fits = (r.fit.exactly (bound_at binding)).0 (λ y t e. e) in
    let extends : Extends (without (bound_at binding) x) binding = (r.fit.exactly (without (bound_at binding) x)).1 (fit_without j (bound_at binding) x j.order ls h fits) in
    by_value (bound_at binding x) (extends x)
  where
    by_value : (o : Option (Value ℕ)) → ((t : Value ℕ) → o ≡ Some t → without (bound_at binding) x x ≡ Some t) → o ≡ None
    by_value None e = refl
    by_value (Some t) e = let there = e t refl in absurd (grind (arith, nat_tests))

-- ---- arguments that are new take values

free_after : (binding : List (Option (Value ℕ))) (bound : ℕ → Bool) (t : Term ℕ) (a : Value ℕ) → ((x : ℕ) → bound x ≡ false → bound_at binding x ≡ None) → (x : ℕ) → (stands_in x t || bound x) ≡ false → bound_at (with_term binding t a) x ≡ None
free_after binding bound (Var y) a free x h = grind (arith, nat_tests, free x, get_or-set_other binding y x (Some a) None)
free_after binding bound (Given b) a free x h = free x h
free_after binding bound (Open s ts) a free x h = free x (grind arith)

-- what a term stands for by the binding, it takes
takes_own : (binding : List (Option (Value ℕ))) (t : Term ℕ) (a : Value ℕ) → key_under (bound_at binding) t ≡ Some a → TakesValue binding t a
takes_own binding (Var x) a e = inr e
takes_own binding (Given b) a e = some_is b a e
takes_own binding (Open s ts) a e = let z : None ≡ Some a = e in absurd (cc)

takes_new : (binding : List (Option (Value ℕ))) (bound : ℕ → Bool) (t : Term ℕ) (a : Value ℕ) → ((x : ℕ) → bound x ≡ false → bound_at binding x ≡ None) → is_new bound t ≡ true → TakesValue binding t a
takes_new binding bound (Var x) a free h = inl (free x (grind arith))
takes_new binding bound (Given b) a free h = let z : false ≡ true = h in absurd (cc)
takes_new binding bound (Open s ts) a free h = let z : false ≡ true = h in absurd (cc)

-- what has a value keeps it when a new variable is bound
key_after : (binding : List (Option (Value ℕ))) (bound : ℕ → Bool) (t : Term ℕ) (a : Value ℕ) → ((x : ℕ) → bound x ≡ false → bound_at binding x ≡ None) → is_new bound t ≡ true → (u : Term ℕ) (c : Value ℕ) → key_under (bound_at binding) u ≡ Some c → key_under (bound_at (with_term binding t a)) u ≡ Some c
key_after binding bound (Var x) a free h (Var y) c e = grind (arith, nat_tests, free x, get_or-set_other binding x y (Some a) None)
key_after binding bound (Var x) a free h (Given b) c e = e
key_after binding bound (Var x) a free h (Open s ts) c e = e
key_after binding bound (Given b) a free h u c e = e
key_after binding bound (Open s ts) a free h u c e = e

-- at the key's place, counted from another one, a term stands for the value there
abbrev IsHeld : List (Option (Value ℕ)) → Option ℕ → ℕ → List (Term ℕ) → List (Value ℕ) → Type 0
IsHeld binding key i ts as' = (n : ℕ) (t : Term ℕ) (a : Value ℕ) → key ≡ Some (i + n) → slice_get ts n ≡ Some t → slice_get as' n ≡ Some a → key_under (bound_at binding) t ≡ Some a

key_is : (key : Option ℕ) (i : ℕ) → is_key key i ≡ true → key ≡ Some i
key_is (Some place) i h = ap (λ n. Some n) (true-eqb place i (sym h))
key_is None i h = absurd (cc)

take_new : (binding : List (Option (Value ℕ))) (bound : ℕ → Bool) (key : Option ℕ) (i : ℕ) (ts : List (Term ℕ)) (as' : List (Value ℕ)) → ((x : ℕ) → bound x ≡ false → bound_at binding x ≡ None) → are_new bound key i ts ≡ true → length ts ≡ length as' → IsHeld binding key i ts as' → TakeValues binding ts as'
take_new binding bound key i [] [] free new count held = tt
take_new binding bound key i [] (a ∷ as') free new count held = absurd (omega arith)
take_new binding bound key i (t ∷ ts) [] free new count held = absurd (omega arith)
take_new binding bound key i (t ∷ ts) (a ∷ as') free new count held =
    let others : are_new (λ x. stands_in x t || bound x) key (suc i) ts ≡ true = grind arith in
    let rest = λ (later : IsHeld (with_term binding t a) key (suc i) ts as'). take_new (with_term binding t a) (λ x. stands_in x t || bound x) key (suc i) ts as' (free_after binding bound t a free) others (omega arith) later in
    elim (is_key key i) as (λ b. (is_key key i ≡ b) → TakeValues binding (t ∷ ts) (a ∷ as')) [
      | true ↦ λ e.
          let at : key ≡ Some i = key_is key i e in
          let here : i ≡ i + 0 = omega arith in (
            takes_own binding t a (held 0 t a (at ∙ ap (λ n. Some n) here) refl refl),
            rest (λ n u c k there value. let same : Some i ≡ Some (suc i + n) = sym at ∙ k in absurd (omega (arith, some_is i (suc i + n) same))),
          )
      | false ↦ λ e.
          let one : is_new bound t ≡ true = grind arith in (
            takes_new binding bound t a free one,
            rest (λ n u c k there value. key_after binding bound t a free one u c (held (suc n) u c (k ∙ ap (λ m. Some m) (let next : suc i + n ≡ i + suc n = omega arith in next)) there value)),
          )
    ] refl

-- ---- a step of a plan

step_fresh : (heads : List (RuleAtom ℕ)) (h : ℕ) (order : List Step) → IsPlan heads h order → (n : ℕ) (step : Step) → slice_get order n ≡ Some step → step.fresh ≡ fresh_of heads (take n order) step.head step.key
step_fresh heads h order p zero step at =
    let first : step ≡ first_step heads h = some_is step (first_step heads h) (sym at ∙ ap (λ (z : List Step). slice_get z 0) p.first) in
    subst (λ (s : Step). s.fresh ≡ fresh_of heads [] s.head s.key) (sym first) refl
step_fresh heads h order p (suc n) step at = (each_next_fact heads h order p n step at).fresh

-- by the binding the head has the atom's value at the key's place
step_held : (j : Join) → HasPlan j → (ls : List ℕ) (binding : List (Option (Value ℕ))) → IsReady j ls binding → (step : Step) → slice_get j.order (length ls) ≡ Some step → (head : RuleAtom ℕ) → head_at j.rule step.head ≡ Some head → (l : ℕ) → MayFollow j ls l → (atom : Atom ℕ) → atom_at j.store l ≡ Some atom → IsHeld binding step.key 1 head.args atom.args
step_held j p [] binding r step at head is l m atom live n t a key there value =
    let first : step ≡ first_step (heads_of j.rule) p.head = some_is step (first_step (heads_of j.rule) p.head) (sym at ∙ ap (λ (z : List Step). slice_get z 0) p.plan.first) in
    let z : None ≡ Some (1 + n) = sym (ap (λ (s : Step). s.key) first) ∙ key in
    absurd (cc)
step_held j p (x ∷ ls) binding r step at head is l m atom live n t a key there value =
    let place : step.key ≡ Some (suc n) = key ∙ ap (λ k. Some k) (let z : 1 + n ≡ suc n = omega arith in z) in
    let same_step : m.step ≡ step = some_is m.step step (sym m.step_is ∙ at) in
    let same_head : m.head ≡ head = some_is m.head head (sym m.head_is ∙ ap (λ (s : Step). head_at j.rule s.head) same_step ∙ is) in
    let same_atom : m.atom ≡ atom = some_is m.atom atom (sym m.live ∙ live) in
    let has : HasKeyValue m.valuation head (Some (suc n)) atom =
    subst (λ k. HasKeyValue m.valuation head k atom) place
    (subst (λ y. HasKeyValue m.valuation head step.key y) same_atom
    (subst (λ y. HasKeyValue m.valuation y step.key m.atom) same_head (subst (λ (s : Step). HasKeyValue m.valuation m.head s.key m.atom) same_step m.key))) in
    let own = step_keyed j p.head (bound_at binding) (x ∷ ls) step head (suc n) p.plan (omega arith) ((r.fit.exactly (bound_at binding)).0 (λ y b e. e)) at is place in
    let grown = keyed_given m.valuation head (suc n) own.0 (keyed_grows m.valuation binding ((r.fit.exactly m.valuation).1 m.fits) head (suc n) own.0 own.1) in
    let found : key_under (bound_at binding) t ≡ Some own.0 = ap (key_value (bound_at binding)) (sym there) ∙ own.1 in
    found ∙ sym grown ∙ has.1 ∙ sym has.2 ∙ value

-- A head whose arguments but its key's are new takes the arguments of each label that may follow.
pub takes_values : (j : Join) → HasPlan j → (ls : List ℕ) (binding : List (Option (Value ℕ))) → IsReady j ls binding → (step : Step) → slice_get j.order (length ls) ≡ Some step → step.fresh ≡ true → (head : RuleAtom ℕ) → head_at j.rule step.head ≡ Some head → (l : ℕ) → MayFollow j ls l → (atom : Atom ℕ) → atom_at j.store l ≡ Some atom → TakeValues binding head.args atom.args
takes_values j p ls binding r step at fresh head is l m atom live =
    let bound = is_bound (heads_of j.rule) (take (length ls) j.order) in
    let new : are_new bound step.key 1 head.args ≡ true =
    ap (λ o. fresh_in bound o step.key) (sym is) ∙ sym (step_fresh (heads_of j.rule) p.head j.order p.plan (length ls) step at) ∙ fresh in
    let pred = pred_follows j ls l m step at head is atom live in
    take_new binding bound step.key 1 head.args atom.args (variable_free j ls binding r) new (sym pred.1) (step_held j p ls binding r step at head is l m atom live)
