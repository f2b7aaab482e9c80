-- The instances of rules over a store.
use Rattle.std.specs.Prelude.{◌≡◌, ℕ, Bool, false, ◌||◌, ◌==◌, List, [], ◌∷◌, ◌++◌, map, Some}
use Rattle.chr_value.specs.Atoms.{Atom}
pub use Rattle.chr_value.specs.Stores.{Store, atom_at, drop_label, without}
use Rattle.chr_model.specs.Abstract.{Rules}

abbrev pub labels : Store → List ℕ
labels store = map (λ e. e.0) store

abbrev pub atoms : Store → List (Atom ℕ)
atoms store = map (λ e. e.1) store

-- whether a label is among these
abbrev pub among : List ℕ → ℕ → Bool
among [] l = false
among (x ∷ xs) l = x == l || among xs l

-- no label occurs twice
abbrev pub Distinct : List ℕ → Type 0
Distinct [] = Unit {0}
Distinct (x ∷ xs) = (among xs x ≡ false) × Distinct xs

-- the labels are in the store and carry these atoms, one each
abbrev pub Carry : Store → List ℕ → List (Atom ℕ) → Type 0
Carry store [] [] = Unit {0}
Carry store (l ∷ ls) (a ∷ as') = (atom_at store l ≡ Some a) × Carry store ls as'
Carry store [] (a ∷ as') = ⊥
Carry store (l ∷ ls) [] = ⊥

-- A labelled instance (Lam and Sulzmann): an instance with a label for each head, all distinct, all
-- in the store, carrying the heads' atoms.
pub record Labelled (I : Rules) (store : Store) (r : ℕ) (kept removed : List ℕ)
    (body : List (Atom ℕ)) : Type 0 where
  pub kept_atoms : List (Atom ℕ)
  pub removed_atoms : List (Atom ℕ)
  pub instance : I r kept_atoms removed_atoms body
  pub distinct : Distinct (kept ++ removed)
  pub kept_there : Carry store kept kept_atoms
  pub removed_there : Carry store removed removed_atoms

-- the label is in no labelled instance over the store
abbrev pub NoneWith : Rules → Store → ℕ → Type 0
NoneWith I store l =
    (r : ℕ) (kept removed : List ℕ) (body : List (Atom ℕ)) → Labelled I store r kept removed body →
    among (kept ++ removed) l ≡ false

-- Final (Frühwirth): no rule applies to the store.
abbrev pub Final : Rules → Store → Type 0
Final I store =
    (r : ℕ) (kept removed : List ℕ) (body : List (Atom ℕ)) → Labelled I store r kept removed body →
    ⊥
