-- What a slice has at an index, and plans by their numbers.
use Rattle.std.proofs.Common.{◌≡◌, ℕ, zero, suc, ◌+◌, ◌-◌, ◌<◌, Bool, true, false, not, cond, replicate, ltb, List, [], ◌∷◌, ◌++◌, map, length, Option, Some, None, IsSome, position, slice_index_or, slice_get, refl, sym, ap, ◌∙◌, arith, ◌⊎◌, inl}
use Rattle.std.specs.List.{prefix_len}
use Rattle.std.specs.Option.{option_map}
use Rattle.std.proofs.lemmas.Bool.{ltb-true, ltb-false}
use Rattle.chr_rule.specs.Rules.{RuleAtom}
use Rattle.chr_rule.specs.Parts.{argument, shape}
use Rattle.chr_rule.specs.declared.rule_atom.RuleAtom.{RuleAtom as CodeRuleAtom}
use Rattle.chr_plan.specs.Orders.{is_known, key_in}
use Rattle.chr_plan.specs.Plans.{PlanList, order_in, orders_at, plan_at}
use Rattle.chr_plan.specs.declared.order.Step.{Step}
use Rattle.std.proofs.lemmas.Option.{slice_get-map, slice_get_past, slice_get_read, slice_get_cases}
use Rattle.std.proofs.lemmas.List.{length-map}

-- what `get` answers, read by a function
pub got_none : {A B : Type 0} (f : A → B) (xs : List A) (i : ℕ) → false ≡ ltb i (length xs) → None ≡ slice_get (map f xs) i
got_none f xs i t = sym (slice_get-map f xs i ∙ ap (option_map f) (slice_get_past xs i (ltb-false i (length xs) (sym t))))

pub got_at : {A B : Type 0} (f : A → B) (xs : List A) (i : ℕ) (x : A) → i < length xs → x ≡ slice_index_or xs i x → Some (f x) ≡ slice_get (map f xs) i
got_at f xs i x within e = sym (slice_get-map f xs i ∙ ap (option_map f) (slice_get_read xs (length xs) i x refl within e))

pub got_some : {A B : Type 0} (f : A → B) (xs : List A) (i : ℕ) (x : A) → true ≡ ltb i (length xs) → x ≡ slice_index_or xs i x → Some (f x) ≡ slice_get (map f xs) i
got_some f xs i x t e = got_at f xs i x (ltb-true i (length xs) (sym t)) e

-- an element of a list that takes one more is an old one, or it
pub get_pushed : {A : Type 0} (xs : List A) (y z : A) (i : ℕ) → slice_get (xs ++ y ∷ []) i ≡ Some z → (slice_get xs i ≡ Some z) ⊎ ((i ≡ length xs) × (y ≡ z))
get_pushed [] y z zero h = grind arith
get_pushed [] y z (suc i) h = grind arith
get_pushed (x ∷ xs) y z zero h = inl h
get_pushed (x ∷ xs) y z (suc i) h = grind (arith, get_pushed xs y z i h)

prefix_len-map : {A B : Type 0} (f : A → B) (p : B → Bool) (xs : List A) → prefix_len p (map f xs) ≡ prefix_len (λ x. p (f x)) xs
prefix_len-map f p [] = refl
prefix_len-map f p (x ∷ xs) = ap (λ n. cond (p (f x)) (1 + n) 0) (prefix_len-map f p xs)

pub position-map : {A B : Type 0} (f : A → B) (p : B → Bool) (xs : List A) → position p (map f xs) ≡ position (λ x. p (f x)) xs
position-map f p xs = simp (prefix_len-map f (λ y. not (p y)) xs, length-map)

-- a key by the index of its place
pub key_found : {A : Type 0} (f : ℕ → Bool) (pattern : CodeRuleAtom A) (head : Option (RuleAtom ℕ)) (found : Option ℕ) → Some (shape pattern) ≡ head → found ≡ position (λ t. is_known f (argument t)) pattern.terms.items → option_map (λ i. i + 1) found ≡ key_in f head
key_found f pattern head found h e = ap (option_map (λ i. i + 1)) (e ∙ sym (position-map argument (is_known f) pattern.terms.items)) ∙ ap (key_in f) h

-- a plan by the numbers of its rule and head
pub plan_there : (plans : PlanList) (r h : ℕ) (orders : List (List Step)) (o : Option (List Step)) → 0 < r → 0 < h → Some orders ≡ slice_get plans (r - 1) → o ≡ slice_get orders (h - 1) → o ≡ plan_at plans r h
plan_there plans zero h orders o p q e f = absurd (omega arith)
plan_there plans (suc r) zero orders o p q e f = absurd (omega arith)
plan_there plans (suc r) (suc h) orders o p q e f =
    f ∙ ap (slice_get orders) (let z : suc h - 1 ≡ h = omega arith in z) ∙ ap (λ (z : Option (List (List Step))). order_in z (suc h)) (e ∙ ap (slice_get plans) (let z : suc r - 1 ≡ r = omega arith in z))

-- there is none at the number 0, and past the last rule
pub none_of_rule : (plans : PlanList) (r h : ℕ) → r ≡ 0 → None ≡ plan_at plans r h
none_of_rule plans zero h e = refl
none_of_rule plans (suc r) h e = absurd (omega arith)

pub none_of_head : (plans : PlanList) (r h : ℕ) → h ≡ 0 → None ≡ plan_at plans r h
none_of_head plans r zero e = by_orders (orders_at plans r)
  where
    by_orders : (o : Option (List (List Step))) → None ≡ order_in o zero
    by_orders None = refl
    by_orders (Some orders) = refl
none_of_head plans r (suc h) e = absurd (omega arith)

pub none_past : (plans : PlanList) (r h : ℕ) → length plans < r → None ≡ plan_at plans r h
none_past plans zero h u = refl
none_past plans (suc r) h u = ap (λ (o : Option (List (List Step))). order_in o h) (sym (slice_get_past plans r (omega arith)))

-- a rule and a head that have a plan, by what holds the plans of the rule
order_some : (orders : Option (List (List Step))) (h : ℕ) → IsSome (order_in orders h) → (found : List (List Step)) × (orders ≡ Some found) × (0 < h) × (h - 1 < length found)
order_some None h s = cc
order_some (Some found) zero s = cc
order_some (Some found) (suc h) s = (found, refl, omega arith, grind (arith, slice_get_cases found h))

pub plan_some : (plans : PlanList) (r h : ℕ) → IsSome (plan_at plans r h) → (found : List (List Step)) × (0 < r) × (slice_get plans (r - 1) ≡ Some found) × (0 < h) × (h - 1 < length found)
plan_some plans zero h s = cc
plan_some plans (suc r) h s = let o = order_some (slice_get plans r) h s in (o.0, omega arith, grind (arith, o.1), o.2, o.3)

pub nothing : (n x : ℕ) → slice_index_or (replicate n false) x false ≡ false
nothing zero x = refl
nothing (suc n) zero = refl
nothing (suc n) (suc x) = nothing n x
