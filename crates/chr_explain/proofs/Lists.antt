-- Elements of lists by their places, and removals by them.
use Rattle.std.proofs.Common.{◌≡◌, ℕ, zero, suc, ◌+◌, ◌<◌, ◌≤◌, ◌⊎◌, inl, inr, List, [], ◌∷◌, ◌++◌, length, take, drop, get_or, slice_get, Some, refl, sym, ◌∙◌, ap, subst, arith, append_assoc, ◌≢◌, ◌-◌, Bool, true, false, ◌==◌, if◌then◌else◌, true≢false, set, replicate, Option, None, true-eqb, get_or-set_other, get_or-set_same}
use Rattle.std.specs.List.{flat_map}
use Rattle.std.proofs.lemmas.Option.{slice_get_within}
use Rattle.std.proofs.lemmas.List.{length-take-le, take_more, take_all, flat_map_more}
use Rattle.std.proofs.Math.ListN.{length-set, length-replicate}
use Rattle.std.proofs.Math.Seq.{take-append_seam}
use Rattle.std.proofs.lemmas.Bool.Decides.{nat_tests}
use Rattle.chr_log.specs.Events.{Event}
use Rattle.chr_model.specs.Stores.{among}
use Rattle.chr_model.proofs.Stores.{among-append}
use Rattle.chr_explain.specs.Reasons.{removed_of, Removes, IsRemoval, AreRemovals, Marks}

-- ---- elements of lists by their places

pub get_before : {X : Type 0} (xs ys : List X) (k : ℕ) (x : X) → slice_get xs k ≡ Some x → slice_get (xs ++ ys) k ≡ Some x
get_before (z ∷ zs) ys (suc k) x h = get_before zs ys k x h
get_before xs ys k x h = grind arith

pub get_last : {X : Type 0} (xs : List X) (x : X) → slice_get (xs ++ x ∷ []) (length xs) ≡ Some x
get_last [] x = refl
get_last (z ∷ zs) x = get_last zs x

pub get_after : {X : Type 0} (xs ys : List X) (k : ℕ) (x : X) → slice_get ys k ≡ Some x → slice_get (xs ++ ys) (length xs + k) ≡ Some x
get_after {X = X} [] ys k x h = let same : k ≡ length {A = X} [] + k = omega arith in subst (λ n. slice_get ys n ≡ Some x) same h
get_after (z ∷ zs) ys k x h =
    let same : suc (length zs) + k ≡ suc (length zs + k) = omega arith in
    subst (λ n. slice_get (z ∷ (zs ++ ys)) n ≡ Some x) (sym same) (get_after zs ys k x h)

pub get_push : {X : Type 0} (xs : List X) (y : X) (k : ℕ) (x : X) → slice_get (xs ++ y ∷ []) k ≡ Some x → (slice_get xs k ≡ Some x) ⊎ ((k ≡ length xs) × (y ≡ x))
get_push [] y zero x h = inr (refl, cc)
get_push [] y (suc k) x h = absurd (cc)
get_push (z ∷ zs) y zero x h = inl h
get_push (z ∷ zs) y (suc k) x h =
    elim (get_push zs y k x h) as (λ _. (slice_get zs k ≡ Some x) ⊎ ((suc k ≡ suc (length zs)) × (y ≡ x))) [
      | inl e ↦ inl e
      | inr e ↦ inr (ap suc e.0, e.1)
    ]

pub drop_from : {X : Type 0} (xs : List X) (k : ℕ) (x : X) → slice_get xs k ≡ Some x → drop k xs ≡ x ∷ drop (suc k) xs
drop_from (z ∷ zs) (suc k) x h = drop_from zs k x h
drop_from xs k x h = grind arith

pub take_to : {X : Type 0} (xs : List X) (k : ℕ) (x : X) → slice_get xs k ≡ Some x → take (suc k) xs ≡ take k xs ++ x ∷ []
take_to (z ∷ zs) (suc k) x h = ap (λ ys. z ∷ ys) (take_to zs k x h)
take_to xs k x h = grind arith

pub taken_count : {X : Type 0} (xs : List X) (k : ℕ) (x : X) → slice_get xs k ≡ Some x → length (take k xs) ≡ k
taken_count xs k x h = let within = slice_get_within xs k x h in length-take-le k xs (omega arith)

-- what is made of one element more
pub more_at : {X Y : Type 0} (f : X → List Y) (xs : List X) (out mid new : List Y) (i : ℕ) (d : X) → i < length xs → new ≡ mid ++ f (get_or xs i d) → mid ≡ out ++ flat_map f (take i xs) → new ≡ out ++ flat_map f (take (i + 1) xs)
more_at {Y = Y} f xs out mid new i d lt e h =
    e ∙ ap (λ (w : List Y). w ++ f (get_or xs i d)) h ∙ flat_map_more f out (take i xs) (get_or xs i d) ∙ ap (λ w. out ++ flat_map f w) (sym (take_more xs i d lt))

pub more_of : {X Y : Type 0} (f : X → List Y) (xs : List X) (out mid new : List Y) (i : ℕ) (x : X) → i < length xs → x ≡ get_or xs i x → new ≡ mid ++ f x → mid ≡ out ++ flat_map f (take i xs) → new ≡ out ++ flat_map f (take (i + 1) xs)
more_of {Y = Y} f xs out mid new i x lt is e h = more_at f xs out mid new i x lt (subst (λ y. new ≡ mid ++ f y) is e) h

-- and of all
pub all_of : {X Y : Type 0} (f : X → List Y) (xs : List X) (out new : List Y) (i : ℕ) → length xs ≤ i → new ≡ out ++ flat_map f (take i xs) → new ≡ out ++ flat_map f xs
all_of {Y = Y} f xs out new i le h = h ∙ ap (λ w. out ++ flat_map f w) (take_all i xs le)

-- what is written after what is written
pub after_two : (out mid new a b : List ℕ) → mid ≡ out ++ a → new ≡ mid ++ b → new ≡ out ++ (a ++ b)
after_two out mid new a b h k = k ∙ ap (λ (w : List ℕ). w ++ b) h ∙ append_assoc out a b

-- ---- removals, entry by entry

one_more : (o n d : Option ℕ) (place l k : ℕ) (ls : List ℕ) → n ≡ (if among ls (k + 1) then Some place else o) → (l ≡ k + 1 → d ≡ Some place) → (l ≢ k + 1 → d ≡ n) → d ≡ (if among (ls ++ l ∷ []) (k + 1) then Some place else o)
one_more o n d place l k ls h same other =
    elim (l == k + 1) as (λ t. (l == k + 1 ≡ t) → d ≡ (if among (ls ++ l ∷ []) (k + 1) then Some place else o)) [
      | true ↦ λ e. let y : d ≡ Some place = same (true-eqb l (k + 1) (sym e)) in grind (arith, nat_tests, among-append ls (l ∷ []) (k + 1))
      | false ↦ λ e. let n' : d ≡ n = other (λ s. (let z : l ≡ k + 1 = s in grind (arith, nat_tests))) in grind (arith, nat_tests, among-append ls (l ∷ []) (k + 1))
    ] refl

-- one label more is marked, or has no place
pub mark_more : (labels : List ℕ) (i place : ℕ) (old now new : List (Option ℕ)) → i < length labels → Marks (take i labels) place old now
    → ((0 < get_or labels i 0) × (get_or labels i 0 ≤ length now) × (new ≡ set now (get_or labels i 0 - 1) (Some place))) ⊎ (((get_or labels i 0 ≡ 0) ⊎ (length now < get_or labels i 0)) × (new ≡ now))
    → Marks (take (i + 1) labels) place old new
mark_more labels i place old now new h marks (inl w) =
    let l = get_or labels i 0 in
    record {
      places = ap length w.2 ∙ length-set now (l - 1) (Some place) ∙ marks.places;
      marks = λ k lt. subst (λ ls. get_or new k None ≡ (if among ls (k + 1) then Some place else get_or old k None)) (sym (take_more labels i 0 h))
          (one_more (get_or old k None) (get_or now k None) (get_or new k None) place l k (take i labels) (marks.marks k lt)
          (λ e. (let same : l - 1 ≡ k = omega (arith, e) in ap (λ ys. get_or ys k None) w.2 ∙ subst (λ j. get_or (set now (l - 1) (Some place)) j None ≡ Some place) same (get_or-set_same now (l - 1) (Some place) None (omega (arith, w.0, w.1)))))
          (λ e. ap (λ ys. get_or ys k None) w.2 ∙ get_or-set_other now (l - 1) k (Some place) None (λ s. e (omega (arith, s, w.0)))));
    }
mark_more labels i place old now new h marks (inr w) =
    let l = get_or labels i 0 in
    record {
      places = ap length w.1 ∙ marks.places;
      marks = λ k lt. subst (λ ls. get_or new k None ≡ (if among ls (k + 1) then Some place else get_or old k None)) (sym (take_more labels i 0 h))
          (one_more (get_or old k None) (get_or now k None) (get_or new k None) place l k (take i labels) (marks.marks k lt)
          (λ e. absurd (outside k lt e w.0))
          (λ e. ap (λ ys. get_or ys k None) w.1));
    }
  where
    outside : (k : ℕ) → k < length old → get_or labels i 0 ≡ k + 1 → ((get_or labels i 0 ≡ 0) ⊎ (length now < get_or labels i 0)) → ⊥
    outside k lt e (inl none) = omega (arith, e, none)
    outside k lt e (inr past) = omega (arith, e, past, marks.places)

abbrev no_place : Option ℕ
no_place = None

no_mark : (n k : ℕ) → get_or (replicate n no_place) k no_place ≡ no_place
no_mark zero k = refl
no_mark (suc n) zero = refl
no_mark (suc n) (suc k) = no_mark n k

pub none_removed : (labels : ℕ) (list : List (Option ℕ)) → list ≡ replicate labels None → AreRemovals [] labels list
none_removed labels list is = record {
  places = ap length is ∙ length-replicate labels None;
  each = λ k lt. subst (IsRemoval [] (k + 1)) (sym (ap (λ xs. get_or xs k None) is ∙ no_mark labels k)) (λ place removes. absurd (let h : slice_get [] place ≡ Some removes.event = removes.there in cc));
}

-- a removal after one entry more
still_removed : (before : List (Event ℕ)) (e : Event ℕ) (label : ℕ) (removal : Option ℕ) → among (removed_of e) label ≡ false → IsRemoval before label removal → IsRemoval (before ++ e ∷ []) label removal
still_removed before e label (Some place) none h = record { event = h.event; there = get_before before (e ∷ []) place h.event h.there; has = h.has }
still_removed before e label None none h = λ place removes. by_side place removes (get_push before e place removes.event removes.there)
  where
    by_side : (place : ℕ) (removes : Removes (before ++ e ∷ []) label place) → (slice_get before place ≡ Some removes.event) ⊎ ((place ≡ length before) × (e ≡ removes.event)) → ⊥
    by_side place removes (inl at) = h place (record { event = removes.event; there = at; has = removes.has })
    by_side place removes (inr at) = true≢false (sym removes.has ∙ ap (λ x. among (removed_of x) label) (sym at.1) ∙ none)

removal_more : (before : List (Event ℕ)) (e : Event ℕ) (label : ℕ) (old new : Option ℕ) → (b : Bool) → among (removed_of e) label ≡ b → new ≡ (if b then Some (length before) else old) → IsRemoval before label old → IsRemoval (before ++ e ∷ []) label new
removal_more before e label old new true has is h = subst (IsRemoval (before ++ e ∷ []) label) (sym is) (record { event = e; there = get_last before e; has = has })
removal_more before e label old new false has is h = subst (IsRemoval (before ++ e ∷ []) label) (sym is) (still_removed before e label old has h)

pub removals_more : (log : List (Event ℕ)) (i labels : ℕ) (e : Event ℕ) (old new : List (Option ℕ)) → slice_get log i ≡ Some e → AreRemovals (take i log) labels old → Marks (removed_of e) i old new → AreRemovals (take (i + 1) log) labels new
removals_more log i labels e old new there removed marks = record {
  places = marks.places ∙ removed.places;
  each = λ k lt. subst (λ es. IsRemoval es (k + 1) (get_or new k None)) (sym (ap (λ n. take n log) (let s : i + 1 ≡ suc i = omega arith in s) ∙ take_to log i e there))
      (removal_more (take i log) e (k + 1) (get_or old k None) (get_or new k None) (among (removed_of e) (k + 1)) refl
      (subst (λ n. get_or new k None ≡ (if among (removed_of e) (k + 1) then Some n else get_or old k None)) (sym (taken_count log i e there)) (marks.marks k (omega (arith, removed.places, lt))))
      (removed.each k lt));
}

-- what is written back
pub kept_back : (new old : List (Option ℕ)) (n : ℕ) → length new ≡ n → take n (new ++ drop (length new) old) ≡ new
kept_back new old n e = subst (λ k. take k (new ++ drop (length new) old) ≡ new) e (take-append_seam new (drop (length new) old))
