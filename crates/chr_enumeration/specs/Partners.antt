-- Lists of labels among which a search looks for partners.
use Rattle.std.specs.Prelude.{◌≡◌, ◌≢◌, ℕ, zero, suc, List, Contains, Option, Some, None, slice_get}
use Rattle.chr_value.specs.Atoms.{Value, Atom}
use Rattle.chr_model.specs.Stores.{Store, atom_at}

-- the list has the label of each such atom of the store, but for one label
abbrev pub HasAllBut : ℕ → Store → (Atom ℕ → Type 0) → List ℕ → Type 0
HasAllBut own store Such labels =
    (l : ℕ) (a : Atom ℕ) → atom_at store l ≡ Some a → l ≢ own → Such a → Contains labels l

-- the argument at a place, from 1
abbrev pub argument_at : ℕ → Atom ℕ → Option (Value ℕ)
argument_at zero a = None
argument_at (suc i) a = slice_get a.args i

abbrev pub IsNamed : ℕ → Atom ℕ → Type 0
IsNamed name a = a.name ≡ name

-- the atom has this name, and this value at the place
abbrev pub HasAt : ℕ → ℕ → Value ℕ → Atom ℕ → Type 0
HasAt name place value a = IsNamed name a × (argument_at place a ≡ Some value)
