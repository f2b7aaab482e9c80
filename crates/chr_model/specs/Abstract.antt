-- Rewriting a multiset of atoms (Frühwirth's abstract semantics). A multiset is a list up to
-- `IsPermutation`.
use Rattle.std.specs.Prelude.{ℕ, List, [], ◌∷◌, ◌++◌, IsPermutation}
use Rattle.chr_value.specs.Atoms.{Atom}

-- What rules allow: under a rule's number, the atoms that it keeps, those that it removes, and
-- those of its body.
abbrev pub Rules : Type 1
Rules = ℕ → List (Atom ℕ) → List (Atom ℕ) → List (Atom ℕ) → Type 0

-- An instance with its rule's number.
pub record Firing : Type 0 where
  pub rule : ℕ
  pub kept : List (Atom ℕ)
  pub removed : List (Atom ℕ)
  pub body : List (Atom ℕ)

-- An abstract step (Frühwirth): a multiset that contains the heads of an instance loses the removed
-- ones and gains the body. The rest stays.
pub record AbstractStep (I : Rules) (f : Firing) (old new : List (Atom ℕ)) : Type 0 where
  pub rest : List (Atom ℕ)
  pub instance : I f.rule f.kept f.removed f.body
  pub before : IsPermutation old (f.removed ++ (f.kept ++ rest))
  pub after : IsPermutation new (f.body ++ (f.kept ++ rest))

-- An abstract run: steps by these instances, one after another.
abbrev pub AbstractRun : Rules → List (Atom ℕ) → List Firing → List (Atom ℕ) → Type 0
AbstractRun I old [] new = IsPermutation old new
AbstractRun I old (f ∷ fs) new =
    (middle : List (Atom ℕ)) × AbstractStep I f old middle × AbstractRun I middle fs new
