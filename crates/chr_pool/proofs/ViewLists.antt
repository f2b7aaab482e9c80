-- Lists of views, one of which grew.
use Rattle.std.proofs.Common.{◌≡◌, ℕ, suc, ◌+◌, ◌<◌, List, [], ◌∷◌, ◌++◌, map, length, get_or, set, sym, ap, ◌∙◌, length-append, arith, Bool, true, false, cond, eqb, refl, IsPermutation, remove}
use Rattle.std.specs.List.{sum_by, concat}
use Rattle.std.proofs.lemmas.List.{length-map, map-set, get_or-map}
use Rattle.std.proofs.lemmas.List.Concat.{concat_is, length-flat_map}
use Rattle.std.proofs.lemmas.List.Sums.{sum_by-set, sum_by-cons}
use Rattle.chr_pool.specs.declared.account.Account.{Account}
use Rattle.chr_pool.specs.Handles.{OneGrew}
use Rattle.std.proofs.lemmas.Bool.{eq-eqb, eqb-true}
use Rattle.std.proofs.lemmas.List.Sorted.{IsPermutation-refl, IsPermutation-sym, IsPermutation-trans, IsPermutation-cons, IsPermutation-remove, sum_by-IsPermutation}

-- all views together have one number more
pub one_longer : (n : ℕ) (old new : List (List ℕ)) → OneGrew n old new → length (concat new) ≡ length (concat old) + 1
one_longer n old new grew =
    let count : (xs : List (List ℕ)) → length (concat xs) ≡ sum_by length xs = λ xs. ap length (concat_is xs) ∙ length-flat_map (λ x. x) xs in
    let was = get_or old grew.place [] in
    omega (arith, count old, count new, ap (sum_by length) grew.is, sum_by-set length old grew.place (was ++ n ∷ []) [] grew.within, length-append was (n ∷ []))

-- a view after two others that are as they were
pub later_grew : (n : ℕ) (v v' w w' : Account) (old new : List (List ℕ)) → v' ≡ v → w' ≡ w → OneGrew n old new → OneGrew n (v.taken ∷ w.taken ∷ old) (v'.taken ∷ w'.taken ∷ new)
later_grew n v v' w w' old new p q grew =
    record { place = suc (suc grew.place); within = (let i = grew.within in omega arith); is = λ k. (p k).taken ∷ (q k).taken ∷ grew.is k }

-- the view at a place
pub at_grew : {X : Type 0} (n : ℕ) (view : X → List ℕ) (xs : List X) (i : ℕ) (d x : X) → i < length xs → view x ≡ view (get_or xs i d) ++ n ∷ [] → OneGrew n (map view xs) (map view (set xs i x))
at_grew n view xs i d x within e =
    record {
      place = i;
      within = (let l = length-map xs view in omega arith);
      is = map-set view xs i x ∙ ap (set (map view xs) i) (e ∙ ap (λ l. l ++ n ∷ []) (sym (get_or-map view xs i d [] within)));
    }

-- Lists that weigh the same, whatever the weights of the numbers, have the same numbers.

-- 1 for the number x, and 0 for the others
abbrev only : ℕ → ℕ → ℕ
only x y = cond (eqb y x) 1 0

abbrev IsIn : ℕ → List ℕ → Type 0
IsIn x ys = (i : ℕ) × (i < length ys) × (x ≡ get_or ys i x)

found_first : (x y : ℕ) (ys : List ℕ) → (0 < sum_by (only x) ys → IsIn x ys) → (b : Bool) → eqb y x ≡ b → 0 < sum_by (only x) (y ∷ ys) → IsIn x (y ∷ ys)
found_first x y ys later true e h = (0, omega arith, sym (eqb-true y x e))
found_first x y ys later false e h =
    let none : only x y ≡ 0 = ap (λ (b : Bool). cond b 1 0) e in
    let r = later (omega (arith, h, none, sum_by-cons (only x) y ys)) in
    (suc r.0, (let p = r.1 in omega arith), r.2)

found : (x : ℕ) (ys : List ℕ) → 0 < sum_by (only x) ys → IsIn x ys
found x [] h = absurd (omega arith)
found x (y ∷ ys) h = found_first x y ys (found x ys) (eqb y x) refl h

pub permutes : (xs ys : List ℕ) → ((h : ℕ → ℕ) → sum_by h xs ≡ sum_by h ys) → IsPermutation xs ys
permutes [] [] e = IsPermutation-refl []
permutes [] (y ∷ ys) e =
    let one : ℕ → ℕ = λ x. 1 in
    let n : sum_by one [] ≡ sum_by one (y ∷ ys) = e one in
    absurd (omega (arith, n, sum_by-cons one y ys))
permutes (x ∷ xs) ys e =
    let here : only x x ≡ 1 = ap (λ (b : Bool). cond b 1 0) (eq-eqb x x refl) in
    let at : IsIn x ys = found x ys (omega (arith, here, e (only x), sum_by-cons (only x) x xs)) in
    let rest = remove ys at.0 in
    let moved : IsPermutation ys (x ∷ rest) = IsPermutation-remove ys at.0 x at.1 at.2 in
    let less : (h : ℕ → ℕ) → sum_by h xs ≡ sum_by h rest = λ h. omega (arith, e h, sum_by-IsPermutation h ys (x ∷ rest) moved, sum_by-cons h x xs, sum_by-cons h x rest) in
    IsPermutation-trans (x ∷ xs) (x ∷ rest) ys (IsPermutation-cons x xs rest (permutes xs rest less)) (IsPermutation-sym ys (x ∷ rest) moved)
