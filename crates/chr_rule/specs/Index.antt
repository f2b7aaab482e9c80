-- The heads of rules by their names.
use Rattle.std.specs.Prelude.{◌≡◌, ℕ, ◌+◌, ◌*◌, ◌<◌, ◌≤◌, ◌⊎◌, ◌↔◌, List, [], Some, slice_index_or, slice_index}
use Rattle.std.specs.List.{AllByRecursion, AllPairs, Contains}
use Rattle.chr_value.specs.Bounds.{most_heads}
use Rattle.chr_rule.specs.declared.occurrences.Occurrence.{Occurrence}
use Rattle.chr_rule.specs.Rules.{RuleAtom, Simpagation, head_at}
use Rattle.chr_rule.specs.Occurrences.{HasPredAt, IsOccurrence, pred_of}

-- a row of occurrences for each name, by its number, and how many more each has room for
pub record Index : Type 0 where
  pub rows : List (List Occurrence)
  pub rooms : List ℕ

-- the row of a name, and its room: none where it has no row
abbrev pub row_at : List (List Occurrence) → ℕ → List Occurrence
row_at rows n = slice_index_or rows n []

abbrev pub room_at : List ℕ → ℕ → ℕ
room_at rooms n = slice_index rooms n

-- a number by which the occurrences of a name are in order: by rule and head
abbrev pub rank : Occurrence → ℕ
rank o = o.rule * 256 + o.head

abbrev pub ComesBefore : Occurrence → Occurrence → Type 0
ComesBefore a b = (a.rule < b.rule) ⊎ ((a.rule ≡ b.rule) × (a.head < b.head))

-- each comes before all that stand after it
abbrev pub IsRising : List Occurrence → Type 0
IsRising = AllPairs (λ a b. rank a < rank b)

-- a row is in order, and the heads' numbers are small enough for the order by rank to be that by
-- rule, then head
pub record IsInOrder (row : List Occurrence) : Type 0 where
  pub rising : IsRising row
  pub fit : (o : Occurrence) → Contains row o → o.head < 256

abbrev pub AreInOrder : List (List Occurrence) → Type 0
AreInOrder rows = (n : ℕ) → IsInOrder (row_at rows n)

-- a row has exactly the occurrences of a name in the rules
abbrev pub IsRowOf : List (Simpagation ℕ) → ℕ → List Occurrence → Type 0
IsRowOf rules n row =
    (o : Occurrence) → Contains row o ↔ IsOccurrence rules (pred_of n o.arity) o.rule o.head

abbrev pub IsIndexOf : List (Simpagation ℕ) → List (List Occurrence) → Type 0
IsIndexOf rules rows = (n : ℕ) → IsRowOf rules n (row_at rows n)

-- what is left of a row from a rank on
pub record IsRestFrom (row : List Occurrence) (from : ℕ) (rest : List Occurrence) : Type 0 where
  pub rising : IsRising rest
  pub listed : (o : Occurrence) → Contains rest o → Contains row o
  pub after : AllByRecursion (λ o. from ≤ rank o) rest
  pub all : (o : Occurrence) → Contains row o → from ≤ rank o → Contains rest o

-- each name has the same row, and at least as much room
pub record KeepsRows (old new : Index) : Type 0 where
  pub rows : (n : ℕ) → row_at new.rows n ≡ row_at old.rows n
  pub rooms : (n : ℕ) → room_at old.rooms n ≤ room_at new.rooms n

-- each head of a rule below a bound has a row with room for those of a rule
abbrev pub HasRoomBelow : ℕ → Index → Simpagation ℕ → Type 0
HasRoomBelow bound index rule =
    (h : ℕ) (head : RuleAtom ℕ) → h < bound → head_at rule h ≡ Some head →
    most_heads ≤ room_at index.rooms head.name

abbrev pub HasRoomFor : Index → Simpagation ℕ → Type 0
HasRoomFor index rule =
    (h : ℕ) (head : RuleAtom ℕ) → head_at rule h ≡ Some head →
    most_heads ≤ room_at index.rooms head.name

-- the new rows have what the old ones have, and one more in the row of a name
abbrev pub HasPushed : List (List Occurrence) → ℕ → Occurrence → List (List Occurrence) → Type 0
HasPushed old name one new =
    (n : ℕ) (o : Occurrence) →
    Contains (row_at new n) o ↔ (Contains (row_at old n) o ⊎ ((n ≡ name) × (one ≡ o)))

-- the new rows have what the old ones have, and the heads of a rule with a number below a bound
abbrev pub HasHeadsBelow : ℕ → List (List Occurrence) → ℕ → Simpagation ℕ → List (List Occurrence) → Type 0
HasHeadsBelow bound old number rule new =
    (n : ℕ) (o : Occurrence) →
    Contains (row_at new n) o ↔
    (Contains (row_at old n) o ⊎
    ((o.rule ≡ number) × (o.head < bound) × HasPredAt rule (pred_of n o.arity) o.head))

-- the new rows have what the old ones have, and the heads of a rule with a number
abbrev pub HasHeadsOf : List (List Occurrence) → ℕ → Simpagation ℕ → List (List Occurrence) → Type 0
HasHeadsOf old number rule new =
    (n : ℕ) (o : Occurrence) →
    Contains (row_at new n) o ↔
    (Contains (row_at old n) o ⊎
    ((o.rule ≡ number) × HasPredAt rule (pred_of n o.arity) o.head))
