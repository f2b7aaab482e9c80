-- How many atoms there are under labels, block by block. The block of a label is its 64th part.
use Rattle.std.specs.Prelude.{◌≡◌, ℕ, ◌+◌, ◌*◌, ◌/◌, ◌<◌, ◌≤◌, if◌then◌else◌, List, [], ◌∷◌, length, Option, Some, None, nat_eq, slice_index}
use Rattle.chr_value.specs.Atoms.{Atom}

-- 1 where a label is of a block, else 0
abbrev pub one_in : ℕ → ℕ → ℕ
one_in label block = if nat_eq (label / 64) block then 1 else 0

-- how many of these are atoms with a label of a block, where the first one has this label
abbrev pub atoms_in : ℕ → ℕ → List (Option (Atom ℕ)) → ℕ
atoms_in label block [] = 0
atoms_in label block (None ∷ atoms) = atoms_in (label + 1) block atoms
atoms_in label block (Some a ∷ atoms) = one_in label block + atoms_in (label + 1) block atoms

-- the counts are those of the blocks, and each label that was given has one
pub record AreCounts (atoms : List (Option (Atom ℕ))) (counts : List ℕ) : Type 0 where
  pub within : 1 ≤ length atoms → length atoms < 64 * length counts
  pub each : (k : ℕ) → k < length counts → slice_index counts k ≡ atoms_in 1 k atoms

-- where a count is 0, none of these is an atom of its block
pub record AreEmptyAtNone (label : ℕ) (atoms : List (Option (Atom ℕ)))
    (counts : List ℕ) : Type 0 where
  pub empty : (k : ℕ) → k < length counts → slice_index counts k ≡ 0 → atoms_in label k atoms ≡ 0
