-- What the plans of a program say: each names every head of its rule once, and its keys are known.
use Rattle.std.proofs.Common.{◌≡◌, ℕ, zero, suc, ◌+◌, ◌≤◌, Bool, true, false, ◌||◌, ◌==◌, List, [], ◌∷◌, ◌++◌, map, take, length, append_assoc, Option, Some, None, position, get_or, slice_get, refl, sym, ◌∙◌, ap, subst, arith, true-eqb}
use Rattle.std.specs.List.{AllByRecursion}
use Rattle.std.specs.Option.{option_map}
use Rattle.std.proofs.lemmas.Bool.Decides.{nat_tests}
use Rattle.std.proofs.lemmas.List.Quantifiers.{position-Some}
use Rattle.std.proofs.lemmas.Option.{slice_get-get_or, slice_get_within}
use Rattle.std.proofs.lemmas.List.{append-nil, map-append}
use Rattle.chr_value.specs.Atoms.{Value, Comp, Atom}
use Rattle.chr_value.proofs.Chosen.{some_is}
use Rattle.chr_rule.specs.Rules.{Term, Var, Given, Open, Terms, End, And, RuleAtom, Simpagation, rule_at}
use Rattle.chr_rule.specs.Rules as rules
use Rattle.chr_guard.specs.Values.{Valuation, term_under, terms_under, key_under}
use Rattle.chr_guard.specs.Instances.{atom_under}
use Rattle.chr_guard.proofs.Under.{atom_is}
use Rattle.chr_guard.proofs.Steps.{all_push}
use Rattle.chr_plan.specs.Orders.{heads_of, head_in, stands_in, stands_among, has_variable, binds, is_bound, is_known, key_in, is_named, IsNext, EachNext, first_step, IsPlan}
use Rattle.chr_plan.specs.Plans.{PlanList, orders_at, order_in, plan_at, AreOrders, ArePlans}
use Rattle.chr_plan.specs.declared.order.Step.{Step}
use Rattle.chr_plan.proofs.Planning.{opens, any_push, Planning, planning_start, planning_push}
use Rattle.chr_plan.proofs.OnePlan.{names_each_fact, each_next_fact}
use Rattle.chr_store.specs.Keys.{arg_at}
use Rattle.chr_model.specs.Stores.{among, Distinct}
use Rattle.chr_search.specs.Trials.{Join, StandsAt, Fit, value_in, given_at}
use Rattle.chr_search.specs.Partners.{key_value, keyed_at}

abbrev pub heads_in : List Step → List ℕ
heads_in order = map (λ step. step.head) order

-- heads that are named, each once
named_among : (steps : List Step) (j : ℕ) → is_named steps j ≡ among (heads_in steps) j
named_among [] j = refl
named_among (s ∷ steps) j = ap (λ b. (s.head == j) || b) (named_among steps j)

pub among_push : (xs : List ℕ) (x y : ℕ) → among (xs ++ x ∷ []) y ≡ ((x == y) || among xs y)
among_push [] x y = refl
among_push (z ∷ xs) x y = grind (arith, nat_tests, among_push xs x y)

pub distinct_push : (xs : List ℕ) (x : ℕ) → Distinct xs → among xs x ≡ false → Distinct (xs ++ x ∷ [])
distinct_push [] x d n = (refl, tt)
distinct_push (y ∷ xs) x d n = (grind (arith, nat_tests, among_push xs x y, d.0), distinct_push xs x d.1 (grind (arith, nat_tests)))

abbrev pub IsWithin : ℕ → Step → Type 0
IsWithin count s = (1 ≤ s.head) × (s.head ≤ count)

-- an order while it grows
record IsGrowing (heads : List (RuleAtom ℕ)) (h : ℕ) (order : List Step) : Type 0 where
  pub within : AllByRecursion (IsWithin (length heads)) order
  pub distinct : Distinct (heads_in order)
  pub planning : Planning heads h (is_bound heads order) order

grown : (heads : List (RuleAtom ℕ)) (h : ℕ) (order : List Step) (s : Step) → IsGrowing heads h order → IsNext heads order s → IsGrowing heads h (order ++ s ∷ [])
grown heads h order s g n = record {
  within = (all_push (IsWithin (length heads)) order s).1 (g.within, (n.open_head.from, n.open_head.to));
  distinct = subst Distinct (sym (map-append (λ (step : Step). step.head) order (s ∷ []))) (distinct_push (heads_in order) s.head g.distinct (sym (named_among order s.head) ∙ n.open_head.unnamed));
  planning = planning_push heads h (is_bound heads order) (is_bound heads (order ++ s ∷ [])) order s g.planning n (λ x. any_push (λ t. binds (head_in heads t.head) x) order s);
}

grown_all : (heads : List (RuleAtom ℕ)) (h : ℕ) (order steps : List Step) → IsGrowing heads h order → EachNext heads order steps → IsGrowing heads h (order ++ steps)
grown_all heads h order [] g e = subst (IsGrowing heads h) (sym (append-nil order)) g
grown_all heads h order (s ∷ steps) g e =
    subst (IsGrowing heads h) (append_assoc order (s ∷ []) steps) (grown_all heads h (order ++ s ∷ []) steps (grown heads h order s g e.0) e.1)

no_opens : (n : ℕ) (order : List Step) → ((j : ℕ) → 1 ≤ j → j ≤ n → is_named order j ≡ true) → opens n order ≡ 0
no_opens zero order f = refl
no_opens (suc n) order f =
    let here : is_named order (suc n) ≡ true = f (suc n) (omega arith) (omega arith) in
    let less = no_opens n order (λ j a b. f j a (omega arith)) in
    cc

-- What an order of a rule's heads has: that head first, and each head once.
pub record IsOrder (heads : List (RuleAtom ℕ)) (h : ℕ) (order : List Step) : Type 0 where
  pub rest : List Step
  pub first : order ≡ first_step heads h ∷ rest
  pub within : AllByRecursion (IsWithin (length heads)) order
  pub distinct : Distinct (heads_in order)
  pub named : (j : ℕ) → 1 ≤ j → j ≤ length heads → among (heads_in order) j ≡ true
  pub count : length order ≡ length heads

pub order_of_plan : (heads : List (RuleAtom ℕ)) (h : ℕ) (order : List Step) → 1 ≤ h → h ≤ length heads → IsPlan heads h order → IsOrder heads h order
order_of_plan heads h order low high p =
    let begun : IsGrowing heads h (first_step heads h ∷ []) = record { within = ((low, high), tt); distinct = (refl, tt); planning = planning_start heads h (is_bound heads (first_step heads h ∷ [])) low high (λ x. refl) } in
    let all : IsGrowing heads h order = subst (IsGrowing heads h) (sym p.first) (grown_all heads h (first_step heads h ∷ []) p.rest begun p.next) in
    let named = names_each_fact heads h order p in
    record {
      rest = p.rest;
      first = p.first;
      within = all.within;
      distinct = all.distinct;
      named = λ j a b. sym (named_among order j) ∙ named j a b;
      count = omega (arith, all.planning.count, no_opens (length heads) order named);
    }

-- a plan of a program is the plan of a head
pub record IsPlanOf (rule : Simpagation ℕ) (h : ℕ) (order : List Step) : Type 0 where
  pub from : 1 ≤ h
  pub to : h ≤ length (heads_of rule)
  pub plan : IsPlan (heads_of rule) h order

-- the orders of a rule
orders_there : (rules : List (Simpagation ℕ)) (plans : PlanList) → ArePlans rules plans → (r : ℕ) (rule : Simpagation ℕ) → rule_at rules r ≡ Some rule → (orders : List (List Step)) × AreOrders rule orders × (orders_at plans r ≡ Some orders)
orders_there rules plans a zero rule ri = absurd (let z : None ≡ Some rule = ri in cc)
orders_there rules plans a (suc r) rule ri =
    let there = slice_get-get_or plans r [] (omega (arith, slice_get_within rules r rule ri, a.count)) in
    (get_or plans r [], a.each r rule _ ri there, there)

pub planned : (rules : List (Simpagation ℕ)) (plans : PlanList) → ArePlans rules plans → (r h : ℕ) (rule : Simpagation ℕ) (order : List Step) → rule_at rules r ≡ Some rule → plan_at plans r h ≡ Some order → IsPlanOf rule h order
planned rules plans a r h rule order ri oi = of_head (orders_there rules plans a r rule ri) h oi
  where
    of_head : (there : (orders : List (List Step)) × AreOrders rule orders × (orders_at plans r ≡ Some orders)) → (k : ℕ) → plan_at plans r k ≡ Some order → IsPlanOf rule k order
    of_head (orders, each, there) zero e = absurd (cc)
    of_head (orders, each, there) (suc i) e =
        let at : slice_get orders i ≡ Some order = ap (λ z. order_in z (suc i)) (sym there) ∙ e in
        record { from = omega arith; to = omega (arith, slice_get_within orders i order at, each.count); plan = each.each i order at }

pub planned_order : (rules : List (Simpagation ℕ)) (plans : PlanList) → ArePlans rules plans → (r h : ℕ) (rule : Simpagation ℕ) (order : List Step) → rule_at rules r ≡ Some rule → plan_at plans r h ≡ Some order → IsOrder (heads_of rule) h order
planned_order rules plans a r h rule order ri oi = let p = planned rules plans a r h rule order ri oi in order_of_plan (heads_of rule) h order p.from p.to p.plan

-- each head of a rule has a plan
pub has_plan : (rules : List (Simpagation ℕ)) (plans : PlanList) → ArePlans rules plans → (r h : ℕ) (rule : Simpagation ℕ) → rule_at rules r ≡ Some rule → 1 ≤ h → h ≤ length (heads_of rule) → (order : List Step) × (plan_at plans r h ≡ Some order)
has_plan rules plans a r zero rule ri low high = absurd (omega arith)
has_plan rules plans a r (suc i) rule ri low high =
    let there = orders_there rules plans a r rule ri in
    (get_or there.0 i [], ap (λ z. order_in z (suc i)) there.2 ∙ slice_get-get_or there.0 i [] (omega (arith, there.1.count)))

-- arguments with their values
value_list : (v : Valuation) (args : List (Term ℕ)) (xs : List (Value ℕ)) → map (term_under v) args ≡ map (λ x. Some x) xs → (i : ℕ) → value_in v (slice_get args i) ≡ slice_get xs i
value_list v [] [] e i = refl
value_list v (t ∷ args) (x ∷ xs) e zero = cc
value_list v (t ∷ args) (x ∷ xs) e (suc i) = value_list v args xs (cc) i
value_list v args xs e i = absurd (cc)

pub given_is : (v : Valuation) (head : RuleAtom ℕ) (atom : Atom ℕ) → atom_under v head ≡ Some atom → (place : ℕ) → given_at v head place ≡ arg_at atom place
given_is v head atom e zero = refl
given_is v head atom e (suc i) = value_list v head.args atom.args ((atom_is v head atom).0 e).1 i

-- where a variable of a term has no value, the term has none
mutual
  in_term : (v : Valuation) (t : Term ℕ) (x : ℕ) → v x ≡ None → stands_in x t ≡ true → term_under v t ≡ None
  in_term v (Var y) x n h = ap v (sym (true-eqb x y (sym h))) ∙ n
  in_term v (Given b) x n h = absurd (cc)
  in_term v (Open s ts) x n h = ap (option_map (Comp s)) (in_terms v ts x n h)

  in_terms : (v : Valuation) (ts : Terms ℕ) (x : ℕ) → v x ≡ None → stands_among x ts ≡ true → terms_under v ts ≡ None
  in_terms v End x n h = absurd (cc)
  in_terms v (And t ts) x n h = grind (arith, in_term v t x n, in_terms v ts x n)

variable_given : (v : Valuation) (args : List (Term ℕ)) (xs : List (Value ℕ)) → map (term_under v) args ≡ map (λ x. Some x) xs → (x : ℕ) → v x ≡ None → has_variable x args ≡ true → ⊥
variable_given v (t ∷ args) (y ∷ xs) e x n h = absurd (grind (arith, in_term v t x n, variable_given v args xs (cc) x n))
variable_given v args xs e x n h = absurd (cc)

-- what an option has whose image has something
mapped : {A B : Type 0} (f : A → B) (o : Option A) (y : B) → option_map f o ≡ Some y → (x : A) × (o ≡ Some x) × (f x ≡ y)
mapped f (Some x) y e = (x, refl, some_is (f x) y e)
mapped f None y e = absurd (cc)

-- the head at which a label stands
pub stands_head : (j : Join) (v : Valuation) (step : Step) (l : ℕ) (s : StandsAt j v step l) → (head : RuleAtom ℕ) × (rules.head_at j.rule step.head ≡ Some head) × (atom_under v head ≡ Some s.atom)
stands_head j v step l s = mapped (atom_under v) (rules.head_at j.rule step.head) (Some s.atom) s.fits

-- its variables have values
stands_given : (j : Join) (v : Valuation) (step : Step) (l x : ℕ) → StandsAt j v step l → v x ≡ None → binds (head_in (heads_of j.rule) step.head) x ≡ true → ⊥
stands_given j v step l x s n b =
    let h = stands_head j v step l s in
    variable_given v h.0.args s.atom.args ((atom_is v h.0 s.atom).0 h.2).1 x n (ap (λ (q : Option (RuleAtom ℕ)). binds q x) (sym h.1) ∙ b)

bound_given : (j : Join) (v : Valuation) (steps : List Step) (ls : List ℕ) → Fit j v steps ls → (x : ℕ) → v x ≡ None → is_bound (heads_of j.rule) (take (length ls) steps) x ≡ true → ⊥
bound_given j v (step ∷ steps) (l ∷ ls) f x n b = absurd (grind (arith, stands_given j v step l x f.0 n, bound_given j v steps ls f.1 x n))
bound_given j v steps [] f x n b = absurd (cc)
bound_given j v [] (l ∷ ls) f x n b = absurd f

-- what a head has as a key is its value
pub keyed_given : (v : Valuation) (head : RuleAtom ℕ) (place : ℕ) (x : Value ℕ) → keyed_at v head place ≡ Some x → given_at v head place ≡ Some x
keyed_given v head zero x e = e
keyed_given v head (suc i) x e = by_term (slice_get head.args i) e
  where
    by_term : (o : Option (Term ℕ)) → key_value v o ≡ Some x → value_in v o ≡ Some x
    by_term (Some (Open s ts)) k = let z : None ≡ Some x = k in absurd (cc)
    by_term o k = k

-- a key's place has a value where each variable that is bound by then has one
key_given : (v : Valuation) (known : ℕ → Bool) → ((x : ℕ) → v x ≡ None → known x ≡ true → ⊥) → (head : RuleAtom ℕ) (place : ℕ) → key_in known (Some head) ≡ Some place → (value : Value ℕ) × (keyed_at v head place ≡ Some value)
key_given v known f head place e =
    let at = mapped (λ i. i + 1) (position (is_known known) head.args) place e in
    let here = position-Some (is_known known) head.args at.0 (Var 0) at.1 in
    let got = by_term (get_or head.args at.0 (Var 0)) here.1 in
    (got.0, subst (λ n. keyed_at v head n ≡ Some got.0) (let same : suc at.0 ≡ place = omega (arith, at.2) in same) (ap (key_value v) (slice_get-get_or head.args at.0 (Var 0) here.0) ∙ got.1))
  where
    by_term : (t : Term ℕ) → is_known known t ≡ true → (value : Value ℕ) × (key_under v t ≡ Some value)
    by_term (Var x) k = elim (v x) as (λ o. (v x ≡ o) → (value : Value ℕ) × (o ≡ Some value)) [ Some a ↦ λ e. (a, refl) | None ↦ λ e. absurd (f x e k) ] refl
    by_term (Given a) k = (a, refl)
    by_term (Open s ts) k = absurd (cc)

-- the key of a step has a value under a fit of the labels before it
pub step_keyed : (j : Join) (h : ℕ) (v : Valuation) (before : List ℕ) (step : Step) (head : RuleAtom ℕ) (place : ℕ) → IsPlan (heads_of j.rule) h j.order → 1 ≤ length before → Fit j v j.order before → slice_get j.order (length before) ≡ Some step → rules.head_at j.rule step.head ≡ Some head → step.key ≡ Some place
    → (value : Value ℕ) × (keyed_at v head place ≡ Some value)
step_keyed j h v [] step head place p some f at is key = absurd (omega arith)
step_keyed j h v (l ∷ before) step head place p some f at is key =
    let next = each_next_fact (heads_of j.rule) h j.order p (length before) step at in
    let known = is_bound (heads_of j.rule) (take (length (l ∷ before)) j.order) in
    key_given v known (bound_given j v j.order (l ∷ before) f) head place
    (ap (key_in known) (sym is) ∙ sym next.key ∙ key)

pub step_key_given : (j : Join) (h : ℕ) (v : Valuation) (before : List ℕ) (step : Step) (head : RuleAtom ℕ) (place : ℕ) → IsPlan (heads_of j.rule) h j.order → 1 ≤ length before → Fit j v j.order before → slice_get j.order (length before) ≡ Some step → rules.head_at j.rule step.head ≡ Some head → step.key ≡ Some place
    → (value : Value ℕ) × (given_at v head place ≡ Some value)
step_key_given j h v before step head place p some f at is key =
    let k = step_keyed j h v before step head place p some f at is key in
    (k.0, keyed_given v head place k.0 k.1)
