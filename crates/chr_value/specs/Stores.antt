-- A store is the list of its labels with their atoms, in the order in which the labels were given.
use Rattle.std.specs.Prelude.{ℕ, ◌==◌, if◌then◌else◌, List, [], ◌∷◌, Option, Some, None}
use Rattle.chr_value.specs.Atoms.{Atom}

abbrev pub Store : Type 0
Store = List (ℕ × Atom ℕ)

-- the atom under a label
abbrev pub atom_at : Store → ℕ → Option (Atom ℕ)
atom_at [] l = None
atom_at (e ∷ es) l = if e.0 == l then Some e.1 else atom_at es l

-- the store without a label, and without each of these
abbrev pub drop_label : ℕ → Store → Store
drop_label l [] = []
drop_label l (e ∷ es) = if e.0 == l then drop_label l es else e ∷ drop_label l es

abbrev pub without : List ℕ → Store → Store
without [] store = store
without (l ∷ ls) store = without ls (drop_label l store)
