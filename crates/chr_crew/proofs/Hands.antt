-- What hands push.
use Rattle.std.proofs.Common.{◌≡◌, ℕ, suc, ◌+◌, ◌<◌, List, [], ◌∷◌, ◌++◌, length, map, get_or, ap, refl, arith}
use Rattle.std.specs.Prelude.{IsPermutation}
use Rattle.std.specs.List.{sum_by, flat_map}
use Rattle.std.proofs.lemmas.List.Sums.{sum_by-append}
use Rattle.std.proofs.lemmas.List.Sorted.{sum_by-IsPermutation}
use Rattle.chr_pool.specs.declared.hand.Hand.{Hand}
use Rattle.chr_pool.specs.Hands.{hand_pushed}
use Rattle.chr_pool.proofs.ViewLists.{permutes}
use Rattle.chr_crew.specs.Pools.{HasPushedOn, HavePushed}

-- where each of some has pushed on, so have all together
all_on : {W : Type 0} (hand : W → Hand ℕ) (start worked : List W) → length worked ≡ length start → ((k : ℕ) (d : W) → k < length start → HasPushedOn (hand (get_or start k d)) (hand (get_or worked k d)))
    → (more : List ℕ) × ((h : ℕ → ℕ) → sum_by h (flat_map hand_pushed (map hand worked)) ≡ sum_by h (flat_map hand_pushed (map hand start)) + sum_by h more)
all_on hand [] [] len each = ([], λ h. refl)
all_on hand [] (y ∷ ys) len each = absurd (omega (arith, len))
all_on hand (x ∷ xs) [] len each = absurd (omega (arith, len))
all_on hand (x ∷ xs) (y ∷ ys) len each =
    let first : HasPushedOn (hand x) (hand y) = each 0 x (omega arith) in
    let rest = all_on hand xs ys (omega (arith, len)) (λ k d below. each (suc k) d (omega (arith, below))) in (
      first.0 ++ rest.0,
      λ h.
          omega (
            arith,
            rest.1 h,
            ap (sum_by h) first.1,
            sum_by-append h (hand_pushed (hand y)) (flat_map hand_pushed (map hand ys)),
            sum_by-append h (hand_pushed (hand x)) first.0,
            sum_by-append h (hand_pushed (hand x)) (flat_map hand_pushed (map hand xs)),
            sum_by-append h first.0 rest.0,
          ),
    )

-- hands on which tickets were dealt, and with which some have worked, have pushed these tickets
pub have_pushed : {W : Type 0} (hand : W → Hand ℕ) (tickets : List ℕ) (dealt hands : List (Hand ℕ)) (start worked : List W) → IsPermutation tickets (flat_map hand_pushed dealt) → map hand start ≡ dealt → hands ≡ map hand worked → length worked ≡ length start
    → ((k : ℕ) (d : W) → k < length start → HasPushedOn (hand (get_or start k d)) (hand (get_or worked k d))) → HavePushed tickets hands
have_pushed hand tickets dealt hands start worked deal joined parted len each =
    let on = all_on hand start worked len each in (
      on.0,
      permutes (tickets ++ on.0) (flat_map hand_pushed hands) (λ h.
          omega (
            arith,
            on.1 h,
            sum_by-append h tickets on.0,
            sum_by-IsPermutation h tickets (flat_map hand_pushed dealt) deal,
            ap (λ hs. sum_by h (flat_map hand_pushed hs)) joined,
            ap (λ hs. sum_by h (flat_map hand_pushed hs)) parted,
          )),
    )
