-- Tickets that are dealt to hands in turn.
use Rattle.std.proofs.Common.{◌≡◌, ℕ, zero, suc, ◌+◌, ◌*◌, ◌/◌, ◌%◌, ◌<◌, ◌≤◌, ◌⊎◌, inl, inr, List, [], ◌∷◌, ◌++◌, map, length, set, get_or, All, refl, sym, ◌∙◌, ap, subst, arith, take, get_or-set_same, get_or-set_other}
use Rattle.std.specs.List.{sum_by, flat_map}
use Rattle.std.proofs.Math.ListN.{get_or-map}
use Rattle.std.proofs.lemmas.Nat.{mul-le}
use Rattle.std.proofs.lemmas.List.{length-map, length-set, length_push}
use Rattle.std.proofs.lemmas.List.Sums.{sum_by-set, sum_by_push, sum_by_more}
use Rattle.std.proofs.lemmas.Bool.{cases_lt, cases_eq}
use Rattle.chr_pool.specs.declared.hand.Hand.{Hand}
use Rattle.chr_pool.specs.Hands.{HandId, hand_id, hand_capacity, hand_pushed}
use Rattle.chr_pool.proofs.Settles.{weigh_flat}
use Rattle.chr_crew.specs.Pools.{HaveRoom}

-- ---- what is pushed

-- one list has got a number at its end
pub weigh_more : {X : Type 0} (f : X → List ℕ) (h : ℕ → ℕ) (xs : List X) (at n : ℕ) (d y : X) → at < length xs → f y ≡ f (get_or xs at d) ++ n ∷ [] → sum_by h (flat_map f (set xs at y)) ≡ sum_by h (flat_map f xs) + h n
weigh_more f h xs at n d y within e =
    omega (
      arith,
      weigh_flat h f (set xs at y),
      weigh_flat h f xs,
      sum_by-set (λ x. sum_by h (f x)) xs at y d within,
      ap (sum_by h) e,
      sum_by_push h (f (get_or xs at d)) n,
    )

-- the tickets so far have got one more
pub dealt_more : {X : Type 0} (f : X → List ℕ) (start xs : List X) (tickets : List ℕ) (k at : ℕ) (d y : X) → k < length tickets → at < length xs → f y ≡ f (get_or xs at d) ++ get_or tickets k 0 ∷ []
    → ((h : ℕ → ℕ) → sum_by h (flat_map f xs) ≡ sum_by h (flat_map f start) + sum_by h (take k tickets))
    → (h : ℕ → ℕ) → sum_by h (flat_map f (set xs at y)) ≡ sum_by h (flat_map f start) + sum_by h (take (k + 1) tickets)
dealt_more f start xs tickets k at d y below within e sums h =
    omega (arith, weigh_more f h xs at (get_or tickets k 0) d y within e, sums h, sum_by_more h tickets k 0 below)

-- ---- how many are pushed on each

-- so many tickets were dealt in turn: each hand has its part of them
abbrev pub HaveParts : List (Hand ℕ) → ℕ → Type 0
HaveParts hands k = (j : ℕ) (d : Hand ℕ) → j < length hands → length hands * length (hand_pushed (get_or hands j d)) + j < k + length hands

-- the hand whose turn it is has no more than the whole rounds before
mul_more : (m n : ℕ) → m * (n + 1) ≡ m * n + m
mul_more m n = omega arith

rounds_before : (many k c : ℕ) → 0 < many → many * c + k % many < k + many → many * c ≤ many * (k / many)
rounds_before many k c some part = by_cases (cases_lt (k / many) c)
  where
    by_cases : (k / many < c) ⊎ (c ≤ k / many) → many * c ≤ many * (k / many)
    by_cases (inl more) = let up = mul-le many (k / many + 1) many c (omega arith) (omega (arith, more)) in absurd (omega (arith, up, part, mul_more many (k / many)))
    by_cases (inr few) = mul-le many c many (k / many) (omega arith) few

-- so it takes the next, where each has room for its part of all
pub has_room : (many k count capacity c : ℕ) → 0 < many → k < count → count ≤ many * capacity → many * c + k % many < k + many → capacity ≤ c → ⊥
has_room many k count capacity c some below room part full =
    omega (arith, some, below, room, mul-le many capacity many c (omega arith) full, rounds_before many k c some part)

-- each has its part of one ticket more
pub parts_more : (hands : List (Hand ℕ)) (k : ℕ) (d x : Hand ℕ) → 0 < length hands → HaveParts hands k → length (hand_pushed x) ≡ length (hand_pushed (get_or hands (k % length hands) d)) + 1 → HaveParts (set hands (k % length hands) x) (k + 1)
parts_more hands k d x some parts longer j e within = by_cases (cases_eq j (k % length hands))
  where
    as_told : (h : Hand ℕ) → get_or (set hands (k % length hands) x) j e ≡ h → length hands * length (hand_pushed h) + j < k + 1 + length hands
        → length (set hands (k % length hands) x) * length (hand_pushed (get_or (set hands (k % length hands) x) j e)) + j < k + 1 + length (set hands (k % length hands) x)
    as_told h is part =
        subst (λ n. n * length (hand_pushed (get_or (set hands (k % length hands) x) j e)) + j < k + 1 + n) (sym (length-set hands (k % length hands) x))
        (subst (λ (y : Hand ℕ). length hands * length (hand_pushed y) + j < k + 1 + length hands) (sym is) part)

    turn : k % length hands < length hands
    turn = omega (arith, some)

    by_cases : (j ≡ k % length hands) ⊎ (j ≡ k % length hands → ⊥) → length (set hands (k % length hands) x) * length (hand_pushed (get_or (set hands (k % length hands) x) j e)) + j < k + 1 + length (set hands (k % length hands) x)
    by_cases (inl same) =
        let c : ℕ = length (hand_pushed (get_or hands (k % length hands) d)) in
        let before = rounds_before (length hands) k c some (parts (k % length hands) d turn) in
        let product : length hands * length (hand_pushed x) ≡ length hands * c + length hands = ap (λ n. length hands * n) longer ∙ mul_more (length hands) c in
        as_told x (ap (λ m. get_or (set hands (k % length hands) x) m e) same ∙ get_or-set_same hands (k % length hands) x e turn)
        (omega (arith, some, before, product, same))
    by_cases (inr other) =
        let here = parts j e (omega (arith, within, length-set hands (k % length hands) x)) in
        as_told (get_or hands j e) (get_or-set_other hands (k % length hands) j x e other) (omega (arith, here))

-- nothing was pushed on any
pub nothing_on : {X A : Type 0} (f : X → List A) (xs : List X) (j : ℕ) (d : X) → flat_map f xs ≡ [] → j < length xs → f (get_or xs j d) ≡ []
nothing_on f [] j d none within = absurd (omega arith)
nothing_on f (x ∷ xs) zero d none within = first (f x) (flat_map f xs) none
  where
    first : {A : Type 0} (ys zs : List A) → ys ++ zs ≡ [] → ys ≡ []
    first [] zs e = refl
    first (y ∷ ys) zs e = absurd (cc)
nothing_on f (x ∷ xs) (suc j) d none within = nothing_on f xs j d (rest (f x) (flat_map f xs) none) (omega (arith, within))
  where
    rest : {A : Type 0} (ys zs : List A) → ys ++ zs ≡ [] → zs ≡ []
    rest [] zs e = e
    rest (y ∷ ys) zs e = absurd (cc)

pub no_parts : (hands : List (Hand ℕ)) → flat_map hand_pushed hands ≡ [] → HaveParts hands 0
no_parts hands none j d within =
    let short : length (hand_pushed (get_or hands j d)) ≡ 0 = ap length (nothing_on hand_pushed hands j d none within) in
    subst (λ n. length hands * n + j < 0 + length hands) (sym short) (omega (arith, within))

-- hands that are still the same have the same capacities
pub same_capacities : (xs ys : List (Hand ℕ)) → map hand_id xs ≡ map hand_id ys → map hand_capacity xs ≡ map hand_capacity ys
same_capacities xs ys same = sym (capacities_of xs) ∙ ap (map (λ (i : HandId). i.capacity)) same ∙ capacities_of ys
  where
    capacities_of : (zs : List (Hand ℕ)) → map (λ (i : HandId). i.capacity) (map hand_id zs) ≡ map hand_capacity zs
    capacities_of [] = refl
    capacities_of (z ∷ zs) = ap (λ cs. hand_capacity z ∷ cs) (capacities_of zs)

-- a hand of a pool that has room for all takes its next ticket
pub never_full : (start hands : List (Hand ℕ)) (count len k : ℕ) (x : Hand ℕ) → len ≡ length hands → map hand_id hands ≡ map hand_id start → length hands ≡ length start → 0 < length hands → HaveRoom count start → HaveParts hands k → k < count
    → x ≡ get_or hands (k % len) x → hand_capacity x ≤ length (hand_pushed x) → ⊥
never_full start hands count len k x is same long some room parts below at full =
    let turn : k % length hands < length hands = omega (arith, some) in
    let here : x ≡ get_or hands (k % length hands) x = at ∙ ap (λ m. get_or hands (k % m) x) is in
    let within : k % length hands < length (map hand_capacity start) = omega (arith, turn, long, length-map start hand_capacity) in
    let capacity : get_or (map hand_capacity start) (k % length hands) (hand_capacity x) ≡ hand_capacity x =
    ap (λ cs. get_or cs (k % length hands) (hand_capacity x)) (sym (same_capacities hands start same))
    ∙ get_or-map hand_capacity hands (k % length hands) x ∙ ap hand_capacity (sym here) in
    let all : count ≤ length hands * hand_capacity x =
    subst (λ m. count ≤ m * hand_capacity x) (sym long) (subst (λ c. count ≤ length start * c) capacity (room (k % length hands) (hand_capacity x) within)) in
    let part : length hands * length (hand_pushed x) + k % length hands < k + length hands =
    subst (λ (h : Hand ℕ). length hands * length (hand_pushed h) + k % length hands < k + length hands) (sym here) (parts (k % length hands) x turn) in
    has_room (length hands) k count (hand_capacity x) (length (hand_pushed x)) some below all part full

-- one ticket more is dealt
pub parts_after : (hands : List (Hand ℕ)) (len k n : ℕ) (x y : Hand ℕ) → len ≡ length hands → 0 < length hands → HaveParts hands k → x ≡ get_or hands (k % len) x → hand_pushed y ≡ hand_pushed x ++ n ∷ [] → HaveParts (set hands (k % len) y) (k + 1)
parts_after hands len k n x y is some parts at longer =
    let here : x ≡ get_or hands (k % length hands) x = at ∙ ap (λ m. get_or hands (k % m) x) is in
    let count : length (hand_pushed y) ≡ length (hand_pushed (get_or hands (k % length hands) x)) + 1 =
    ap length longer ∙ length_push (hand_pushed x) n ∙ ap (λ (h : Hand ℕ). length (hand_pushed h) + 1) here in
    subst (λ m. HaveParts (set hands (k % m) y) (k + 1)) (sym is) (parts_more hands k x y some parts count)

-- hands with this capacity have room
pub room_made : (count n capacity : ℕ) (hands : List (Hand ℕ)) → 0 < n → length hands ≡ n → count / n + 1 ≤ capacity → All (λ m. m ≡ capacity) (map hand_capacity hands) → HaveRoom count hands
room_made count n capacity hands some long enough all k d within =
    let up = mul-le n (count / n + 1) n capacity (omega arith) enough in
    let whole : count ≤ n * capacity = omega (arith, some, up, mul_more n (count / n)) in
    subst (λ m. count ≤ length hands * m) (sym (all k d within)) (subst (λ m. count ≤ m * capacity) (sym long) whole)

pub append_none : {X : Type 0} (xs ys : List X) → xs ++ ys ≡ [] → (xs ≡ []) × (ys ≡ [])
append_none [] ys e = (refl, e)
append_none (x ∷ xs) ys e = absurd (cc)
