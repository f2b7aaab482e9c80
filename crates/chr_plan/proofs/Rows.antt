-- Orders in rows of six.
use Rattle.std.proofs.Common.{◌≡◌, ℕ, zero, suc, ◌+◌, ◌-◌, ◌*◌, ◌<◌, ◌≤◌, List, [], ◌∷◌, ◌++◌, length, map, take, drop, Option, Some, None, IsSome, slice_get, slice_index_or, refl, sym, ap, subst, ◌∙◌, arith, inl, inr}
use Rattle.std.specs.List.{AllByRecursion}
use Rattle.std.specs.Option.{option_map}
use Rattle.std.proofs.lemmas.List.{append_assoc, length-append, length-drop, length-map, map_push, length-take, map-append, take-map, take-append-le, drop-append-le, drop-drop}
use Rattle.std.proofs.lemmas.Option.{slice_get_read, slice_get_within, slice_get_cases}
use Rattle.chr_rule.specs.Rules.{Simpagation}
use Rattle.chr_plan.specs.Orders.{heads_of, IsPlan}
use Rattle.chr_plan.specs.Plans.{PlanList, AreOrders, AreRows, IsRowOf, in_rows, plan_at}
use Rattle.chr_plan.specs.declared.order.Step.{Step}
use Rattle.chr_plan.proofs.Lists.{got_at, get_pushed, plan_some, plan_there}
use Rattle.chr_plan.proofs.Made.{PlansSoFar, plans_more}

-- ---- what stands in a row

rows_length : (ns : List ℕ) (xs : List (List Step)) → length (in_rows ns xs) ≡ length ns
rows_length [] xs = refl
rows_length (n ∷ ns) xs = ap suc (rows_length ns (drop 6 xs))

pub plans_length : (ns : List ℕ) (xs : List (List Step)) (plans : PlanList) → in_rows ns xs ≡ plans → length plans ≡ length ns
plans_length ns xs plans view = sym (ap length view) ∙ rows_length ns xs

rows_at : (ns : List ℕ) (xs : List (List Step)) (i : ℕ) → slice_get (in_rows ns xs) i ≡ option_map (λ n. take n (drop (6 * i) xs)) (slice_get ns i)
rows_at [] xs i = refl
rows_at (n ∷ ns) xs zero = refl
rows_at (n ∷ ns) xs (suc i) =
    rows_at ns (drop 6 xs) i ∙ ap (λ (ys : List (List Step)). option_map (λ n. take n ys) (slice_get ns i)) (drop-drop (6 * i) 6 xs ∙ ap (λ (k : ℕ). drop k xs) (let z : 6 + 6 * i ≡ 6 * suc i = omega arith in z))

pub few_at : (ns : List ℕ) → AllByRecursion (λ n. n ≤ 6) ns → (i n : ℕ) → i < length ns → n ≡ slice_index_or ns i n → n ≤ 6
few_at [] few i n h e = absurd (omega arith)
few_at (m ∷ ns) few zero n h e = subst (λ (z : ℕ). z ≤ 6) (sym e) few.0
few_at (m ∷ ns) few (suc i) n h e = few_at ns few.1 i n (omega arith) e

pub row_within : (ns : List ℕ) (many : ℕ) → AreRows ns many → (i : ℕ) → i < length ns → i * 6 + 6 ≤ many
row_within ns many are i h = let e = are.six in omega arith

drop_map : {A B : Type 0} (f : A → B) (n : ℕ) (xs : List A) → drop n (map f xs) ≡ map f (drop n xs)
drop_map f zero xs = refl
drop_map f (suc n) [] = refl
drop_map f (suc n) (x ∷ xs) = drop_map f n xs

pub row_read : {O : Type 0} (items : O → List Step) (ns : List ℕ) (xs : List O) (i n : ℕ) (row : List O) → i < length ns → n ≡ slice_index_or ns i n → row ≡ take n (drop (6 * i) xs) → Some (map items row) ≡ slice_get (in_rows ns (map items xs)) i
row_read {O = O} items ns xs i n row h e is =
    ap (λ (z : List O). Some (map items z)) is ∙ ap (λ (z : List (List Step)). Some z) (sym (take-map items n (drop (6 * i) xs)) ∙ ap (take n) (sym (drop_map items (6 * i) xs)))
    ∙ sym (rows_at ns (map items xs) i ∙ ap (option_map (λ n. take n (drop (6 * i) (map items xs)))) (slice_get_read ns (length ns) i n refl h e))

-- ---- one order

take_get : {A : Type 0} (n : ℕ) (xs : List A) (i : ℕ) (x : A) → slice_get (take n xs) i ≡ Some x → slice_get xs i ≡ Some x
take_get zero xs i x h = absurd (cc)
take_get (suc n) [] i x h = absurd (cc)
take_get (suc n) (y ∷ xs) zero x h = h
take_get (suc n) (y ∷ xs) (suc i) x h = take_get n xs i x h

drop_get : {A : Type 0} (k : ℕ) (xs : List A) (i : ℕ) → slice_get (drop k xs) i ≡ slice_get xs (k + i)
drop_get zero xs i = let e : i ≡ 0 + i = omega arith in ap (slice_get xs) e
drop_get (suc k) [] i = refl
drop_get (suc k) (x ∷ xs) i = let e : suc (k + i) ≡ suc k + i = omega arith in drop_get k xs i ∙ ap (slice_get (x ∷ xs)) e

row_of : (ns : List ℕ) (xs : List (List Step)) (i : ℕ) (row : List (List Step)) → slice_get (in_rows ns xs) i ≡ Some row → (n : ℕ) × (row ≡ take n (drop (6 * i) xs))
row_of ns xs i row h = by_count (slice_get ns i) (sym (rows_at ns xs i) ∙ h)
  where
    by_count : (o : Option ℕ) → option_map (λ n. take n (drop (6 * i) xs)) o ≡ Some row → (n : ℕ) × (row ≡ take n (drop (6 * i) xs))
    by_count None e = absurd (cc)
    by_count (Some n) e = (n, cc)

-- the order of a rule and a head that have a plan, in the list
order_there : (ns : List ℕ) (xs : List (List Step)) (r h : ℕ) → IsSome (plan_at (in_rows ns xs) r h) → (s : List Step) × (0 < r) × (0 < h) × (Some s ≡ plan_at (in_rows ns xs) r h) × (slice_get xs (6 * (r - 1) + (h - 1)) ≡ Some s)
order_there ns xs r h there =
    let o = plan_some (in_rows ns xs) r h there in
    let in_row = row_of ns xs (r - 1) o.0 o.2 in
    let got : (s : List Step) × (slice_get o.0 (h - 1) ≡ Some s) = grind (arith, o.4, slice_get_cases o.0 (h - 1)) in (
      got.0,
      o.1,
      o.3,
      plan_there (in_rows ns xs) r h o.0 (Some got.0) o.1 o.3 (sym o.2) (sym got.1),
      sym (drop_get (6 * (r - 1)) xs (h - 1)) ∙ take_get in_row.0 (drop (6 * (r - 1)) xs) (h - 1) got.0 (ap (λ (z : List (List Step)). slice_get z (h - 1)) (sym in_row.1) ∙ got.1),
    )

module _ {O : Type 0} (items : O → List Step) (ns : List ℕ) (xs : List O) (plans : PlanList) (view : in_rows ns (map items xs) ≡ plans) (r h : ℕ) (there : IsSome (plan_at plans r h)) where
  found : (s : List Step) × (0 < r) × (0 < h) × (Some s ≡ plan_at (in_rows ns (map items xs)) r h) × (slice_get (map items xs) (6 * (r - 1) + (h - 1)) ≡ Some s)
  found = order_there ns (map items xs) r h (subst (λ (z : PlanList). IsSome (plan_at z r h)) (sym view) there)

  -- both are numbers from 1, and the order is within the list
  pub order_within : (0 < r) × (0 < h) × (6 * (r - 1) + (h - 1) < length xs)
  order_within =
      let f = found in
      (f.1, f.2, omega (arith, slice_get_within (map items xs) (6 * (r - 1) + (h - 1)) f.0 f.4, length-map xs items))

  pub order_read : (i : ℕ) (order : O) (steps : List Step) → i ≡ 6 * (r - 1) + (h - 1) → order ≡ slice_index_or xs i order → steps ≡ items order → Some steps ≡ plan_at plans r h
  order_read i order steps at e same =
      let f = found in
      let w = order_within in
      let within : i < length xs = omega (arith, at, w.2) in
      ap (λ (s : List Step). Some s) same ∙ got_at items xs i order within e ∙ ap (slice_get (map items xs)) at ∙ f.4 ∙ f.3 ∙ ap (λ (z : PlanList). plan_at z r h) view

-- ---- one row more

pub row_more : {O : Type 0} (items : O → List Step) (rule : Simpagation ℕ) (n : ℕ) (old xs new : List O) (x : O) → new ≡ xs ++ x ∷ [] → IsRowOf items rule n old xs → (n + 1 ≤ length (heads_of rule) → IsPlan (heads_of rule) (n + 1) (items x)) → IsRowOf items rule (n + 1) old new
row_more {O = O} items rule n old xs new x e h p = record {
  row = h.row ++ x ∷ [];
  is = e ∙ ap (λ (z : List O). z ++ x ∷ []) h.is ∙ append_assoc old h.row (x ∷ []);
  count = (let c = h.count in omega (arith, length-append h.row (x ∷ [])));
  each = λ i order g w. elim (get_pushed (map items h.row) (items x) order i (ap (λ (z : List (List Step)). slice_get z i) (sym (map_push items h.row x)) ∙ g)) [
    | inl k ↦ h.each i order k w
    | inr k ↦
        let same : n + 1 ≡ suc i = omega (arith, k.0, h.count, length-map h.row items) in
        subst (IsPlan (heads_of rule) (suc i)) k.1 (subst (λ (z : ℕ). IsPlan (heads_of rule) z (items x)) same (p (omega (arith, same, w))))
  ];
}

all_pushed : (ns : List ℕ) (n : ℕ) → AllByRecursion (λ n. n ≤ 6) ns → n ≤ 6 → AllByRecursion (λ n. n ≤ 6) (ns ++ n ∷ [])
all_pushed [] n few h = (h, tt)
all_pushed (m ∷ ns) n few h = (few.0, all_pushed ns n few.1 h)

rows_more : {O : Type 0} (ns : List ℕ) (n : ℕ) (xs row : List O) → AreRows ns (length xs) → length row ≡ 6 → n ≤ 6 → AreRows (ns ++ n ∷ []) (length (xs ++ row))
rows_more ns n xs row are six few = record {
  six = (let e = are.six in omega (arith, length-append xs row, length-append ns (n ∷ [])));
  few = all_pushed ns n are.few few;
}

in_rows_more : (ns : List ℕ) (n : ℕ) (xs row : List (List Step)) → AllByRecursion (λ n. n ≤ 6) ns → length xs ≡ 6 * length ns → in_rows (ns ++ n ∷ []) (xs ++ row) ≡ in_rows ns xs ++ take n row ∷ []
in_rows_more [] n [] row few six = refl
in_rows_more [] n (x ∷ xs) row few six = absurd (omega arith)
in_rows_more (m ∷ ns) n xs row few six =
    let enough : 6 ≤ length xs = omega arith in
    let a : take m (xs ++ row) ≡ take m xs = take-append-le m xs row (omega (arith, few.0)) in
    let b : drop 6 (xs ++ row) ≡ drop 6 xs ++ row = drop-append-le 6 xs row enough in
    let c = in_rows_more ns n (drop 6 xs) row few.1 (omega (arith, length-drop 6 xs)) in
    ap (λ (z : List (List Step)). z ∷ in_rows (ns ++ n ∷ []) (drop 6 (xs ++ row))) a ∙ ap (λ (z : List (List Step)). take m xs ∷ in_rows (ns ++ n ∷ []) z) b ∙ ap (λ (z : PlanList). take m xs ∷ z) c

row_orders : {O : Type 0} (items : O → List Step) (rule : Simpagation ℕ) (old new : List O) → (h : IsRowOf items rule 6 old new) → length (heads_of rule) ≤ 6 → AreOrders rule (take (length (heads_of rule)) (map items h.row))
row_orders items rule old new h few = record {
  count = (let e = h.count in omega (arith, length-take (length (heads_of rule)) (map items h.row), length-map h.row items));
  each = λ i order g. h.each i order (take_get (length (heads_of rule)) (map items h.row) i order g) (let w = slice_get_within (take (length (heads_of rule)) (map items h.row)) i order g in omega (arith, w, length-take (length (heads_of rule)) (map items h.row)));
}

plans_push : {O : Type 0} (items : O → List Step) (rules : List (Simpagation ℕ)) (i : ℕ) (ns : List ℕ) (xs new : List O) (this : Simpagation ℕ) → AreRows ns (length xs) → length (heads_of this) ≤ 6 → PlansSoFar rules i (in_rows ns (map items xs)) → slice_get rules i ≡ Some this → IsRowOf items this 6 xs new → PlansSoFar rules (i + 1) (in_rows (ns ++ length (heads_of this) ∷ []) (map items new))
plans_push {O = O} items rules i ns xs new this are few so_far here row =
    subst (PlansSoFar rules (i + 1))
    (sym (ap (λ (z : List O). in_rows (ns ++ length (heads_of this) ∷ []) (map items z)) row.is ∙ ap (in_rows (ns ++ length (heads_of this) ∷ [])) (map-append items xs row.row) ∙ in_rows_more ns (length (heads_of this)) (map items xs) (map items row.row) are.few (length-map xs items ∙ are.six)))
    (plans_more rules i (in_rows ns (map items xs)) this _ so_far here (row_orders items this xs new row few))

-- ---- rule by rule

pub rows_next : {O : Type 0} (items : O → List Step) (rules : List (Simpagation ℕ)) (i n : ℕ) (ns more : List ℕ) (xs new : List O) (this : Simpagation ℕ) → AreRows ns (length xs) → PlansSoFar rules i (in_rows ns (map items xs)) → slice_get rules i ≡ Some this → IsRowOf items this 6 xs new → n ≡ length this.kept + length this.removed → n ≤ 6 → more ≡ ns ++ n ∷ [] → AreRows more (length new) × PlansSoFar rules (i + 1) (in_rows more (map items new))
rows_next {O = O} items rules i n ns more xs new this are so_far here row count few e =
    let all : length (heads_of this) ≡ n = omega (arith, count, length-append this.kept this.removed) in (
      subst (λ (z : List ℕ). AreRows z (length new)) (sym e) (subst (λ (z : List O). AreRows (ns ++ n ∷ []) (length z)) (sym row.is) (rows_more ns n xs row.row are row.count few)),
      subst (λ (z : List ℕ). PlansSoFar rules (i + 1) (in_rows z (map items new))) (ap (λ (k : ℕ). ns ++ k ∷ []) all ∙ sym e) (plans_push items rules i ns xs new this are (subst (λ (k : ℕ). k ≤ 6) (sym all) few) so_far here row),
    )
