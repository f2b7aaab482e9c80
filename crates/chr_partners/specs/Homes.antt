-- Lists of labels at the homes of keys.
use Rattle.std.specs.Prelude.{◌≡◌, ℕ, zero, suc, ◌+◌, ◌*◌, ◌%◌, ◌≤◌, Bool, true, false, List, [], length, slice_index_or, IsSome}
use Rattle.chr_value.specs.Atoms.{Atom}
use Rattle.chr_value.specs.Stores.{Store, atom_at}
use Rattle.chr_partners.specs.Partners.{ListedStore, IsListed, IsIn}
use Rattle.chr_partners.specs.Hashes.{atom_hash}

-- the labels at each home
abbrev pub Lists : Type 0
Lists = List (List ℕ)

-- the labels at the home of a hash
abbrev pub labels_at : Lists → ℕ → List ℕ
labels_at lists hash = slice_index_or lists (hash % length lists) []

-- each label is at the homes where it was
abbrev pub HasAll : Lists → Lists → Type 0
HasAll old new = (hash l : ℕ) → IsIn l (labels_at old hash) → IsIn l (labels_at new hash)

-- each label that has an atom is at the homes where it was
abbrev pub HasLive : Store → Lists → Lists → Type 0
HasLive store old new =
    (hash l : ℕ) → IsIn l (labels_at old hash) → IsSome (atom_at store l) →
    IsIn l (labels_at new hash)

-- there are lists for a place of a name's predicates; for the place 0, which is the name alone,
-- there always are
abbrev pub is_kept : List Bool → ℕ → ℕ → Bool
is_kept places name zero = true
is_kept places name (suc i) = slice_index_or places (name * 9 + suc i) false

-- a label is at the home of each key of its atom for which there are lists
abbrev pub IsEntered : List Bool → Lists → ℕ → Atom ℕ → Type 0
IsEntered places lists l a =
    (place : ℕ) → place ≤ length a.args → is_kept places a.name place ≡ true →
    IsIn l (labels_at lists (atom_hash a place))

-- something holds of each listed label and its atom
abbrev pub HoldsOfListed : ListedStore → (ℕ → Atom ℕ → Type 0) → Type 0
HoldsOfListed s Holds = (l : ℕ) (a : Atom ℕ) → IsListed s l a → Holds l a

-- each listed label is among these; what else is doesn't matter
abbrev pub HasListed : ListedStore → List ℕ → Type 0
HasListed s labels = HoldsOfListed s (λ l a. IsIn l labels)

-- each listed label is at the homes of its keys; what else is there doesn't matter
abbrev pub IsComplete : ListedStore → List Bool → Lists → Type 0
IsComplete s places lists = HoldsOfListed s (IsEntered places lists)
