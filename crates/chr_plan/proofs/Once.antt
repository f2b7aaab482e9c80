-- The places that plans look up, one at a time.
use Rattle.std.proofs.lemmas.List.{append-nil, take_all, get_or-map, length-map}
use Rattle.std.proofs.lemmas.Option.{get_or_from_slice_get, slice_get_within}
use Rattle.std.proofs.lemmas.List.Elements.{filter-append}
use Rattle.std.proofs.lemmas.Bool.Decides.{nat_tests}
use Rattle.std.proofs.Common.{◌≡◌, ℕ, zero, suc, ◌+◌, ◌<◌, ◌≤◌, Bool, true, false, not, if◌then◌else◌, List, [], ◌∷◌, ◌++◌, length, map, take, Some, slice_get, refl, sym, ap, subst, ◌∙◌, arith, append_assoc, add-one, get_or, ◌⊎◌, inl, inr}
use Rattle.std.specs.List.{list_any, filter}
use Rattle.chr_rule.specs.Rules.{Simpagation}
use Rattle.chr_plan.specs.Orders.{heads_of}
use Rattle.chr_plan.specs.Plans.{PlanList}
use Rattle.chr_plan.specs.declared.order.Step.{Step}
use Rattle.chr_plan.specs.Places.{Place, same_place, for_each, order_places, keys_met, once}

same_true : (p q : Place) → same_place p q ≡ true → p ≡ q
same_true p q h = grind (arith, nat_tests)

same_refl : (p : Place) → same_place p p ≡ true
same_refl p = grind (arith, nat_tests)

same_swap : (p q : Place) → same_place p q ≡ same_place q p
same_swap p q = grind (arith, nat_tests)

abbrev has : Place → List Place → Bool
has x ps = list_any (λ p. same_place p x) ps

abbrev others : Place → List Place → List Place
others y ps = filter (λ q. not (same_place q y)) ps

-- a place is among the others than another one where it was among all
has_others : (x y : Place) (ps : List Place) → same_place y x ≡ false → has x (others y ps) ≡ has x ps
has_others x y [] d = refl
has_others x y (p ∷ ps) d = let rest = has_others x y ps d in grind (arith, same_true p y)

others_push : (x y : Place) (ps : List Place) → others y (ps ++ x ∷ []) ≡ others y ps ++ (if not (same_place x y) then x ∷ [] else [])
others_push x y ps = filter-append (λ q. not (same_place q y)) ps (x ∷ [])

-- the list with a place unless it has it
abbrev with : List Place → Place → List Place
with ps x = if has x ps then ps else ps ++ x ∷ []

once_push : (ps : List Place) (x : Place) → once (ps ++ x ∷ []) ≡ with (once ps) x
once_push [] x = refl
once_push (y ∷ ps) x = let rest = once_push ps x in grind (arith, others_push x y (once ps), has_others x y (once ps), same_swap x y, append-nil (others y (once ps)))

pub once_has : (x : Place) (met ps : List Place) → has x ps ≡ true → ps ≡ once met → ps ≡ once (met ++ x ∷ [])
once_has x met ps h e = grind (arith, once_push met x)

pub once_lacks : (x : Place) (met ps : List Place) → has x ps ≡ false → ps ≡ once met → ps ++ x ∷ [] ≡ once (met ++ x ∷ [])
once_lacks x met ps h e = grind (arith, once_push met x)

pub once_same : (met ps : List Place) → ps ≡ once met → ps ≡ once (met ++ [])
once_same met ps e = e ∙ ap once (sym (append-nil met))

-- ---- a walk over a list

each_next : {X : Type 0} (f : X → List Place) (xs : List X) (i : ℕ) (d : X) → i < length xs → for_each f (take (suc i) xs) ≡ for_each f (take i xs) ++ f (get_or xs i d)
each_next f [] i d u = absurd (omega arith)
each_next f (x ∷ xs) zero d u = append-nil (f x)
each_next f (x ∷ xs) (suc i) d u = ap (λ (z : List Place). f x ++ z) (each_next f xs i d (omega arith)) ∙ sym (append_assoc (f x) (for_each f (take i xs)) (f (get_or xs i d)))

-- what has been met once the first i have been passed
abbrev pub Added : List Place → List Place → List Place → Type 0
Added more old new = (met : List Place) → old ≡ once met → new ≡ once (met ++ more)

pub added_none : (ps : List Place) → Added [] ps ps
added_none ps = λ met e. once_same met ps e

pub added_next : {X : Type 0} (f : X → List Place) (xs : List X) (i : ℕ) (d : X) (old cur new : List Place) → i < length xs → Added (for_each f (take i xs)) old cur → Added (f (get_or xs i d)) cur new → Added (for_each f (take (i + 1) xs)) old new
added_next f xs i d old cur new u h k = λ met e. k (met ++ for_each f (take i xs)) (h met e) ∙ ap once (append_assoc met (for_each f (take i xs)) (f (get_or xs i d)) ∙ ap (λ (z : List Place). met ++ z) (sym (each_next f xs i d u) ∙ ap (λ (n : ℕ). for_each f (take n xs)) (sym (add-one i))))

pub each_all : {X : Type 0} (f : X → List Place) (xs : List X) (i : ℕ) → length xs ≤ i → for_each f (take i xs) ≡ for_each f xs
each_all f xs i u = ap (for_each f) (take_all i xs u)

pub each_map : {X Y : Type 0} (f : Y → List Place) (g : X → Y) (xs : List X) → for_each f (map g xs) ≡ for_each (λ x. f (g x)) xs
each_map f g [] = refl
each_map f g (x ∷ xs) = ap (λ (z : List Place). f (g x) ++ z) (each_map f g xs)

-- ---- rule by rule

keys_next : (rules : List (Simpagation ℕ)) (plans : PlanList) (i : ℕ) (r : Simpagation ℕ) (o : List (List Step)) → i < length rules → i < length plans → keys_met (take (suc i) rules) (take (suc i) plans) ≡ keys_met (take i rules) (take i plans) ++ for_each (order_places (heads_of (get_or rules i r))) (get_or plans i o)
keys_next [] plans i r o u v = absurd (omega arith)
keys_next (rule ∷ rules) [] i r o u v = absurd (omega arith)
keys_next (rule ∷ rules) (orders ∷ plans) zero r o u v = append-nil (for_each (order_places (heads_of rule)) orders)
keys_next (rule ∷ rules) (orders ∷ plans) (suc i) r o u v = ap (λ (z : List Place). for_each (order_places (heads_of rule)) orders ++ z) (keys_next rules plans i r o (omega arith) (omega arith)) ∙ sym (append_assoc (for_each (order_places (heads_of rule)) orders) (keys_met (take i rules) (take i plans)) (for_each (order_places (heads_of (get_or rules i r))) (get_or plans i o)))

pub rules_next : (rules : List (Simpagation ℕ)) (plans : PlanList) (i : ℕ) (r : Simpagation ℕ) (o : List (List Step)) (cur new : List Place) → i < length rules → i < length plans → cur ≡ once (keys_met (take i rules) (take i plans)) → Added (for_each (order_places (heads_of (get_or rules i r))) (get_or plans i o)) cur new → new ≡ once (keys_met (take (i + 1) rules) (take (i + 1) plans))
rules_next rules plans i r o cur new u v h k = k (keys_met (take i rules) (take i plans)) h ∙ ap once (sym (keys_next rules plans i r o u v) ∙ ap (λ (n : ℕ). keys_met (take n rules) (take n plans)) (sym (add-one i)))

pub keys_all : (rules : List (Simpagation ℕ)) (plans : PlanList) (i : ℕ) → (length rules ≤ i) ⊎ (length plans ≤ i) → keys_met (take i rules) (take i plans) ≡ keys_met rules plans
keys_all [] plans zero u = refl
keys_all [] plans (suc i) u = refl
keys_all (rule ∷ rules) [] zero u = refl
keys_all (rule ∷ rules) [] (suc i) u = refl
keys_all (rule ∷ rules) (orders ∷ plans) zero u = grind arith
keys_all (rule ∷ rules) (orders ∷ plans) (suc i) u = ap (λ (z : List Place). for_each (order_places (heads_of rule)) orders ++ z) (keys_all rules plans i (grind arith))

-- the same in the list that holds rules
pub places_next : {R : Type 0} (f : R → Simpagation ℕ) (rs : List R) (rules : List (Simpagation ℕ)) (plans : PlanList) (i : ℕ) (r : R) (rule : Simpagation ℕ) (orders : List (List Step)) (cur new : List Place) → map f rs ≡ rules → i < length rs → rule ≡ f (get_or rs i r) → Some orders ≡ slice_get plans i → cur ≡ once (keys_met (take i rules) (take i plans)) → Added (for_each (order_places (heads_of rule)) orders) cur new → new ≡ once (keys_met (take (i + 1) rules) (take (i + 1) plans))
places_next f rs rules plans i r rule orders cur new e u x y h k =
    rules_next rules plans i (f r) orders cur new (let a : length rules ≡ length rs = sym (ap length e) ∙ length-map rs f in omega arith) (slice_get_within plans i orders (sym y)) h
    (subst (λ (z : List (List Step)). Added (for_each (order_places (heads_of (get_or rules i (f r)))) z) cur new) (sym (get_or_from_slice_get plans i orders orders (sym y)))
    (subst (λ (z : Simpagation ℕ). Added (for_each (order_places (heads_of z)) orders) cur new) (x ∙ sym (get_or-map f rs i r (f r) u) ∙ ap (λ (z : List (Simpagation ℕ)). get_or z i (f r)) e) k))

pub places_end : {R : Type 0} (f : R → Simpagation ℕ) (rs : List R) (rules : List (Simpagation ℕ)) (plans : PlanList) (i : ℕ) (cur : List Place) → map f rs ≡ rules → (length rs ≤ i) ⊎ (length plans ≤ i) → cur ≡ once (keys_met (take i rules) (take i plans)) → cur ≡ once (keys_met rules plans)
places_end f rs rules plans i cur e (inl u) h = h ∙ ap once (keys_all rules plans i (inl (let a : length rules ≡ length rs = sym (ap length e) ∙ length-map rs f in omega arith)))
places_end f rs rules plans i cur e (inr u) h = h ∙ ap once (keys_all rules plans i (inr u))
