-- Variables seen in turn.
use Rattle.std.proofs.Common.{◌≡◌, ◌+◌, ◌≤◌, ◌<◌, ℕ, true, false, cond, List, [], ◌∷◌, ◌++◌, length, map, drop, get_or, flat_map, length-append, Option, Some, None, MatchOption, is_some, refl, sym, ap, ◌∙◌, arith, Bool, not, ◌&&◌, bytes_eq, ◌||◌, subst}
use Rattle.std.proofs.lemmas.Bool.{cond_both, and_parts, OnTrue_from, and_from, and_left, or_left, or_parts, not-true}
use Rattle.std.proofs.lemmas.List.{at_drop_more}
use Rattle.chr_limits.specs.Variables.{is_seen, seen_from, is_blank, member_variables, seen}
use Rattle.chr_limits.specs.Scope.{are_seen, body_in_scope}
use Rattle.std.specs.List.{list_any, count_by}
use Rattle.std.specs.Bool.{OnTrue}
use Rattle.std.proofs.lemmas.List.Folds.{list_any-append}
use Rattle.chr_value.proofs.Chosen.{both}
use Rattle.chr_grammar.specs.Parsed.{BodyMember}
use Rattle.std.proofs.lemmas.List.Sums.{sum_by-append}
use Rattle.std.proofs.lemmas.Slice.Eq.{bytes_eq-Decides}
use Rattle.std.proofs.Math.Bool.{or-false}

pub met_from_append : (m xs ys : List (List ℕ)) → seen_from m (xs ++ ys) ≡ seen_from (seen_from m xs) ys
met_from_append m [] ys = refl
met_from_append m (x ∷ xs) ys =
    let n = m ++ x ∷ [] in
    elim (is_seen m x) as (λ b. cond b (seen_from m (xs ++ ys)) (seen_from n (xs ++ ys)) ≡ seen_from (cond b (seen_from m xs) (seen_from n xs)) ys) [ true ↦ met_from_append m xs ys | false ↦ met_from_append n xs ys ]

pub met_from_longer : (m xs : List (List ℕ)) → length m ≤ length (seen_from m xs)
met_from_longer m [] = omega arith
met_from_longer m (x ∷ xs) =
    cond_both (is_seen m x) _ _ (λ l. length m ≤ length l) (λ h. met_from_longer m xs) (λ h. omega (arith, met_from_longer (m ++ x ∷ []) xs, length-append m (x ∷ [])))

-- too many so far are too many
pub met_from_more : (m xs ys : List (List ℕ)) → length (seen_from m xs) ≤ length (seen_from m (xs ++ ys))
met_from_more m xs ys = rw met_from_append (met_from_longer (seen_from m xs) ys)

pub short_more : (m xs ys : List (List ℕ)) → 24 < length (seen_from m xs) → 24 < length (seen_from m (xs ++ ys))
short_more m xs ys h = omega (arith, met_from_more m xs ys)

-- the variables of one element more, as at a step of a loop
pub one_more : {X W : Type 0} (h : W → List (List ℕ)) (v : X → W) (m : List (List ℕ)) (xs : List X) (i : ℕ) (d : X) → i < length xs → seen_from m (flat_map h (map v (drop i xs))) ≡ seen_from (seen_from m (h (v (get_or xs i d)))) (flat_map h (map v (drop (i + 1) xs)))
one_more h v m xs i d k =
    at_drop_more (λ ys. seen_from m (flat_map h (map v ys))) xs i d k ∙ met_from_append m (h (v (get_or xs i d))) (flat_map h (map v (drop (i + 1) xs)))

pub meet_turn : {X W : Type 0} (h : W → List (List ℕ)) (v : X → W) (m n b p : List (List ℕ)) (xs : List X) (i : ℕ) (d : X) → i < length xs → seen_from m (flat_map h (map v (drop i xs))) ≡ b → p ≡ h (v (get_or xs i d)) → n ≡ seen_from m p → seen_from n (flat_map h (map v (drop (i + 1) xs))) ≡ b
meet_turn h v m n b p xs i d k e s f =
    ap (λ (l : List (List ℕ)). seen_from l (flat_map h (map v (drop (i + 1) xs)))) (f ∙ ap (seen_from m) s) ∙ sym (one_more h v m xs i d k) ∙ e

pub meet_short : {X W : Type 0} (h : W → List (List ℕ)) (v : X → W) (m b p : List (List ℕ)) (xs : List X) (i : ℕ) (d : X) → i < length xs → seen_from m (flat_map h (map v (drop i xs))) ≡ b → p ≡ h (v (get_or xs i d)) → 24 < length (seen_from m p) → 24 < length b
meet_short h v m b p xs i d k e s f =
    let longer = met_from_longer (seen_from m (h (v (get_or xs i d)))) (flat_map h (map v (drop (i + 1) xs))) in
    let same : length (seen_from (seen_from m (h (v (get_or xs i d)))) (flat_map h (map v (drop (i + 1) xs)))) ≡ length b = ap length (sym (one_more h v m xs i d k) ∙ e) in
    let here : length (seen_from m p) ≡ length (seen_from m (h (v (get_or xs i d)))) = ap (λ (l : List (List ℕ)). length (seen_from m l)) s in
    omega arith

pub short_first : (m : List (List ℕ)) (x : List ℕ) (ys : List (List ℕ)) → 24 < length (seen_from m (x ∷ [])) → 24 < length (seen_from m (x ∷ ys))
short_first m x ys h = short_more m (x ∷ []) ys h

-- those that were seen add nothing
pub met_from_seen : (m xs : List (List ℕ)) → are_seen m xs ≡ true → seen_from m xs ≡ m
met_from_seen m [] e = refl
met_from_seen m (x ∷ xs) e = let parts = and_parts (is_seen m x) (are_seen m xs) e in rw parts.0 (met_from_seen m xs parts.1)

-- three lists seen in turn
pub met_in_turn : (xs ys zs m n k : List (List ℕ)) → m ≡ seen_from [] xs → n ≡ seen_from m ys → k ≡ seen_from n zs → seen_from [] (xs ++ ys ++ zs) ≡ k
met_in_turn xs ys zs m n k e f h = rw (met_from_append, met_from_append, ← e, ← f, ← h) refl

pub some_then : (o : Option (Unit {0})) (P Q : Type 0) → MatchOption o P (λ _. Q) → is_some o ≡ true → Q
some_then None P Q m e = absurd (cc)
some_then (Some u) P Q m e = m

still_seen : (m : List (List ℕ)) (x y : List ℕ) → is_seen m y ≡ true → is_seen (m ++ x ∷ []) y ≡ true
still_seen m x y e =
    let parts = both (not (is_blank y)) (list_any (bytes_eq y) m) e in
    and_from (not (is_blank y)) _ parts.0 (list_any-append (bytes_eq y) m (x ∷ []) ∙ or_left _ _ parts.1)

-- those that were seen are so after one more
pub still_all_seen : (m : List (List ℕ)) (x : List ℕ) (ys : List (List ℕ)) → are_seen m ys ≡ true → are_seen (m ++ x ∷ []) ys ≡ true
still_all_seen m x [] e = refl
still_all_seen m x (y ∷ ys) e =
    let h = both (is_seen m y) (are_seen m ys) e in
    rw (still_seen m x y h.0) (still_all_seen m x ys h.1)

pub stopped : (b c all : Bool) → b ≡ false → (b && c) ≡ all → false ≡ all
stopped b c all e h = sym (and_left b c e) ∙ h

pub goes_on : (b c all : Bool) → b ≡ true → (b && c) ≡ all → c ≡ all
goes_on b c all e h = rw e at h

pub room_for : (m : List (List ℕ)) (x : List ℕ) (ys : List (List ℕ)) → is_seen m x ≡ false → length (seen_from m (x ∷ ys)) ≤ 24 → length m < 24
room_for m x ys e h =
    let few : length (seen_from (m ++ x ∷ []) ys) ≤ 24 = rw e at h in
    omega (arith, met_from_longer (m ++ x ∷ []) ys, length-append m (x ∷ []))

pub value_met : (m : List (List ℕ)) (x : List ℕ) (ys : List (List ℕ)) → is_seen m x ≡ false → are_seen m ys ≡ true → m ++ x ∷ [] ≡ seen_from m (x ∷ ys)
value_met m x ys e k = rw e (sym (met_from_seen (m ++ x ∷ []) ys (still_all_seen m x ys k)))

pub all_met : (m xs : List (List ℕ)) (b : Bool) → b ≡ are_seen m xs → OnTrue b (m ≡ seen_from m xs)
all_met m xs b e = OnTrue_from b _ (λ h. sym (met_from_seen m xs (sym e ∙ h)))

-- a body with one member more, as at a step of a loop
member_more : {X : Type 0} (v : X → BodyMember) (m : List (List ℕ)) (xs : List X) (i : ℕ) (x : X) → i < length xs → x ≡ get_or xs i x → seen_from m (flat_map member_variables (map v (drop i xs))) ≡ seen_from (seen_from m (member_variables (v x))) (flat_map member_variables (map v (drop (i + 1) xs)))
member_more v m xs i x lt is =
    one_more member_variables v m xs i x lt ∙ ap (λ y. seen_from (seen_from m (member_variables (v y))) (flat_map member_variables (map v (drop (i + 1) xs)))) (sym is)

pub room_left : {X : Type 0} (v : X → BodyMember) (m : List (List ℕ)) (xs : List X) (i : ℕ) (x : X) → i < length xs → x ≡ get_or xs i x → length (seen_from m (flat_map member_variables (map v (drop i xs)))) ≤ 24 → length (seen_from m (member_variables (v x))) ≤ 24
room_left v m xs i x lt is few =
    omega (arith, few, ap length (member_more v m xs i x lt is), met_from_longer (seen_from m (member_variables (v x))) (flat_map member_variables (map v (drop (i + 1) xs))))

pub still_few : {X : Type 0} (v : X → BodyMember) (m n : List (List ℕ)) (xs : List X) (i : ℕ) (x : X) → i < length xs → x ≡ get_or xs i x → n ≡ seen_from m (member_variables (v x)) → length (seen_from m (flat_map member_variables (map v (drop i xs)))) ≤ 24
    → length (seen_from n (flat_map member_variables (map v (drop (i + 1) xs)))) ≤ 24
still_few v m n xs i x lt is met few = rw met (rw (member_more v m xs i x lt is) at few)

pub body_more : {X : Type 0} (v : X → BodyMember) (m n : List (List ℕ)) (b all : Bool) (xs : List X) (i : ℕ) (x : X) → i < length xs → x ≡ get_or xs i x → ((ms : List BodyMember) → body_in_scope m (v x ∷ ms) ≡ (b && body_in_scope n ms)) → body_in_scope m (map v (drop i xs)) ≡ all
    → (b && body_in_scope n (map v (drop (i + 1) xs))) ≡ all
body_more v m n b all xs i x lt is scope so_far =
    sym (scope (map v (drop (i + 1) xs))) ∙ ap (λ y. body_in_scope m (v y ∷ map v (drop (i + 1) xs))) is ∙ sym (at_drop_more (λ ys. body_in_scope m (map v ys)) xs i x lt) ∙ so_far

-- the variables left for the body after heads and guard
pub body_left : (hs gs bs m : List (List ℕ)) → m ≡ seen_from [] hs → are_seen m gs ≡ true → length (seen_from [] (hs ++ gs ++ bs)) ≤ 24 → length (seen_from m bs) ≤ 24
body_left hs gs bs m e k h =
    let first : seen_from [] (hs ++ gs) ≡ m = met_from_append [] hs gs ∙ ap (λ (l : List (List ℕ)). seen_from l gs) (sym e) ∙ met_from_seen m gs k in
    let all : seen_from [] (hs ++ gs ++ bs) ≡ seen_from m bs = met_from_append [] (hs ++ gs) bs ∙ ap (λ (l : List (List ℕ)). seen_from l bs) first in
    omega (arith, ap length all)

absorb : (a q c : Bool) → (q ≡ true → a ≡ true) → (a || c) ≡ (a || (q || c))
absorb true q c h = refl
absorb false true c h = absurd (let e : false ≡ true = h refl in cc)
absorb false false c h = refl

joined : (a q c : Bool) → (a || (q || false) || c) ≡ (a || (q || c))
joined true q c = refl
joined false true c = refl
joined false false c = refl

twin : (m : List (List ℕ)) (x y : List ℕ) → is_seen m y ≡ true → bytes_eq x y ≡ true → list_any (bytes_eq x) m ≡ true
twin m x y e h =
    let there = both (not (is_blank y)) (list_any (bytes_eq y) m) e in
    subst (λ (z : List ℕ). list_any (bytes_eq z) m ≡ true) (sym ((bytes_eq-Decides x y).0 h)) there.1

same_from : (x : List ℕ) (m xs : List (List ℕ)) → list_any (bytes_eq x) (seen_from m xs) ≡ (list_any (bytes_eq x) m || list_any (bytes_eq x) xs)
same_from x m [] = sym (or-false (list_any (bytes_eq x) m))
same_from x m (y ∷ ys) =
    cond_both (is_seen m y) _ _ (λ l. list_any (bytes_eq x) l ≡ (list_any (bytes_eq x) m || (bytes_eq x y || list_any (bytes_eq x) ys)))
    (λ h. same_from x m ys ∙ absorb (list_any (bytes_eq x) m) (bytes_eq x y) (list_any (bytes_eq x) ys) (twin m x y h))
    (λ h. same_from x (m ++ y ∷ []) ys ∙ ap (λ (a : Bool). a || list_any (bytes_eq x) ys) (list_any-append (bytes_eq x) m (y ∷ [])) ∙ joined (list_any (bytes_eq x) m) (bytes_eq x y) (list_any (bytes_eq x) ys))

pub same : (names : List (List ℕ)) (x : List ℕ) → list_any (bytes_eq x) (seen names) ≡ list_any (bytes_eq x) names
same names x = same_from x [] names

plain : (n : ℕ) → 0 + n ≡ n
plain n = omega arith

one_last : (p : List ℕ → Bool) (m : List (List ℕ)) (y : List ℕ) → count_by p (m ++ y ∷ []) ≡ count_by p m + cond (p y) 1 0
one_last p m y = sum_by-append (λ x. cond (p x) 1 0) m (y ∷ []) ∙ ap (λ n. count_by p m + n) (plain (cond (p y) 1 0))

one_first : (p : List ℕ → Bool) (y : List ℕ) (ys : List (List ℕ)) → count_by p (y ∷ ys) ≡ cond (p y) 1 0 + count_by p ys
one_first p y ys = sum_by-append (λ x. cond (p x) 1 0) (y ∷ []) ys ∙ ap (λ n. n + count_by p ys) (plain (cond (p y) 1 0))

none : (p : List ℕ → Bool) (m : List (List ℕ)) → list_any p m ≡ false → count_by p m ≡ 0
none p [] h = refl
none p (y ∷ ys) h = let parts = or_parts (p y) (list_any p ys) h in one_first p y ys ∙ rw (parts.0, none p ys parts.1) refl

new_once : (x y : List ℕ) (m : List (List ℕ)) → is_blank x ≡ false → is_seen m y ≡ false → count_by (bytes_eq x) m ≤ 1 → count_by (bytes_eq x) (m ++ y ∷ []) ≤ 1
new_once x y m k e h =
    cond_both (bytes_eq x y) 1 0 (λ c. count_by (bytes_eq x) (m ++ y ∷ []) ≡ count_by (bytes_eq x) m + c → count_by (bytes_eq x) (m ++ y ∷ []) ≤ 1)
    (λ q total.
    let plain_ : is_blank y ≡ false = ap is_blank (sym ((bytes_eq-Decides x y).0 q)) ∙ k in
    let none_ : list_any (bytes_eq y) m ≡ false = rw plain_ at e in
    let zero_ = none (bytes_eq x) m (subst (λ (z : List ℕ). list_any (bytes_eq z) m ≡ false) (sym ((bytes_eq-Decides x y).0 q)) none_) in
    omega arith)
    (λ q total. omega arith) (one_last (bytes_eq x) m y)

once_from : (x : List ℕ) (m xs : List (List ℕ)) → is_blank x ≡ false → count_by (bytes_eq x) m ≤ 1 → count_by (bytes_eq x) (seen_from m xs) ≤ 1
once_from x m [] k h = h
once_from x m (y ∷ ys) k h =
    cond_both (is_seen m y) _ _ (λ l. count_by (bytes_eq x) l ≤ 1) (λ e. once_from x m ys k h) (λ e. once_from x (m ++ y ∷ []) ys k (new_once x y m k e h))

pub once : (names : List (List ℕ)) (x : List ℕ) → is_blank x ≡ false → count_by (bytes_eq x) (seen names) ≤ 1
once names x k = once_from x [] names k (omega arith)

blanks_from : (m xs : List (List ℕ)) → count_by is_blank (seen_from m xs) ≡ count_by is_blank m + count_by is_blank xs
blanks_from m [] = omega arith
blanks_from m (y ∷ ys) =
    cond_both (is_seen m y) _ _ (λ l. count_by is_blank l ≡ count_by is_blank m + count_by is_blank (y ∷ ys))
    (λ h. let none_ : ◌≡◌ {A = ℕ} (cond (is_blank y) 1 0) 0 = rw (not-true (is_blank y) (both (not (is_blank y)) _ h).0) refl in omega (arith, blanks_from m ys, one_first is_blank y ys))
    (λ h. omega (arith, blanks_from (m ++ y ∷ []) ys, one_last is_blank m y, one_first is_blank y ys))

pub blanks : (names : List (List ℕ)) → count_by is_blank (seen names) ≡ count_by is_blank names
blanks names = blanks_from [] names ∙ plain (count_by is_blank names)
