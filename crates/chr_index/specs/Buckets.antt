-- The slots of a bucket, and the labels of its live ones.
use Rattle.std.specs.Prelude.{◌≡◌, ℕ, zero, suc, Bool, nat_eq, nat_lt, ◌<◌, ◌≤◌, ◌==◌, if◌then◌else◌, ◌⊎◌, true, List, [], ◌∷◌, length, Option, take, slice_get, MatchOption}
use Rattle.std.specs.Option.{option_map}
use Rattle.std.specs.Prelude.{Some}
use Rattle.std.specs.List.{AllByRecursion, filter}
use Rattle.chr_index.specs.declared.bucket.TheConstants.{BACK}
use Rattle.chr_index.specs.declared.bucket.Slot.{Slot}

-- a slot is live where its run is 0
abbrev pub is_live : Slot → Bool
is_live s = nat_eq s.run 0

-- how many slots from this one on are dead, as its run tells: one where that is BACK or more
abbrev pub jump_of : Slot → ℕ
jump_of s = if nat_lt s.run BACK then s.run else 1

-- the labels of the slots that are live
abbrev pub live_labels : List Slot → List ℕ
live_labels [] = []
live_labels (s ∷ ss) = if is_live s then s.label ∷ live_labels ss else live_labels ss

-- the slots that are live
abbrev pub live_slots : List Slot → List Slot
live_slots ss = filter is_live ss

-- the list without a number
abbrev pub drop_number : ℕ → List ℕ → List ℕ
drop_number n [] = []
drop_number n (m ∷ ms) = if m == n then drop_number n ms else m ∷ drop_number n ms

-- a number is in the list
abbrev pub IsIn : ℕ → List ℕ → Type 0
IsIn n [] = ⊥
IsIn n (m ∷ ms) = (m ≡ n) ⊎ IsIn n ms

-- the least number over one and under another, or none where there is none
abbrev pub IsLeastBetween : List ℕ → ℕ → ℕ → Option ℕ → Type 0
IsLeastBetween ms after below found =
    MatchOption found ((n : ℕ) → IsIn n ms → after < n → n < below → ⊥)
    (λ l. IsIn l ms × (after < l) × (l < below) × ((n : ℕ) → IsIn n ms → after < n → l ≤ n))

-- the labels of the slots rise
abbrev pub SlotsRise : List Slot → Type 0
SlotsRise [] = Unit {0}
SlotsRise (s ∷ ss) = AllByRecursion (λ t. s.label < t.label) ss × SlotsRise ss

-- a slot that is live, where there is one
abbrev pub IsLiveOrNone : Option Slot → Type 0
IsLiveOrNone found = MatchOption found (Unit {0}) (λ s. is_live s ≡ true)

-- the slot at a place has the label
abbrev pub HasLabelAt : List Slot → ℕ → ℕ → Type 0
HasLabelAt slots i label = option_map (λ s. s.label) (slice_get slots i) ≡ Some label

-- the jump at a place, 0 where there is none
abbrev pub jump_at : List Slot → ℕ → ℕ
jump_at [] i = 0
jump_at (s ∷ ss) zero = jump_of s
jump_at (s ∷ ss) (suc i) = jump_at ss i

-- from each slot on, as many as its jump says are dead
abbrev pub JumpsAreDead : List Slot → Type 0
JumpsAreDead [] = Unit {0}
JumpsAreDead (s ∷ ss) =
    (jump_of s ≤ length (s ∷ ss)) × (live_labels (take (jump_of s) (s ∷ ss)) ≡ [])
    × JumpsAreDead ss

-- the same labels, live or dead as before
abbrev pub AreAlike : List Slot → List Slot → Type 0
AreAlike [] [] = Unit {0}
AreAlike [] (t ∷ ts) = ⊥
AreAlike (s ∷ ss) [] = ⊥
AreAlike (s ∷ ss) (t ∷ ts) = (s.label ≡ t.label) × (is_live s ≡ is_live t) × AreAlike ss ts

-- the slots rise, jumps lead over dead ones, and those before a place are dead
pub record IsBucket (slots : List Slot) (first : ℕ) : Type 0 where
  pub rising : SlotsRise slots
  pub jumps : JumpsAreDead slots
  pub within : first ≤ length slots
  pub front : live_labels (take first slots) ≡ []
