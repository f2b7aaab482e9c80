-- A store, some of whose labels are listed.
use Rattle.std.specs.Prelude.{◌≡◌, ℕ, zero, suc, ◌+◌, ◌++◌, ◌==◌, ◌⊎◌, if◌then◌else◌, List, [], ◌∷◌, Option, Some, None, slice_get}
use Rattle.std.specs.Borrow.{Bor}
use Rattle.chr_value.specs.Atoms.{Value, Atom}
use Rattle.chr_value.specs.Stores.{Store, atom_at, drop_label}

-- a number is in a list
abbrev pub IsIn : ℕ → List ℕ → Type 0
IsIn n [] = ⊥
IsIn n (m ∷ ms) = (m ≡ n) ⊎ IsIn n ms

-- the list without a number
abbrev pub drop_number : ℕ → List ℕ → List ℕ
drop_number n [] = []
drop_number n (m ∷ ms) = if m == n then drop_number n ms else m ∷ drop_number n ms

-- a store, those of its labels that are listed, and the label that comes next
pub record ListedStore : Type 0 where
  pub store : Store
  pub listed : List ℕ
  pub next : ℕ

-- no atoms
abbrev pub no_atoms : ListedStore
no_atoms = record { store = []; listed = []; next = 1 }

-- with an atom under the next label, which isn't listed
abbrev pub with_atom : Atom ℕ → ListedStore → ListedStore
with_atom a s =
    record { store = s.store ++ (s.next, a) ∷ []; listed = s.listed; next = s.next + 1 }

-- without a label
abbrev pub without_label : ℕ → ListedStore → ListedStore
without_label l s =
    record { store = drop_label l s.store; listed = drop_number l s.listed; next = s.next }

-- a label is in the store, with this atom, and is listed
pub record IsListed (s : ListedStore) (l : ℕ) (a : Atom ℕ) : Type 0 where
  pub there : atom_at s.store l ≡ Some a
  pub listed : IsIn l s.listed

-- the argument at a place, places being numbered from 1
abbrev pub arg_at : Atom ℕ → ℕ → Option (Value ℕ)
arg_at a zero = None
arg_at a (suc i) = slice_get a.args i

-- the label and the atom that an item shows
abbrev pub shown : ℕ × Bor (Atom ℕ) → ℕ × Atom ℕ
shown item = (item.0, item.1.now)
