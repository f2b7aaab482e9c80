-- Atoms in slots, by label.
use Rattle.std.specs.Prelude.{◌≡◌, ◌≢◌, ◌⊎◌, ⊤, ℕ, ◌+◌, ◌<◌, ◌≤◌, List, [], ◌∷◌, length, map, slice_get, Option, Some, None}
use Rattle.std.specs.Borrow.{Bor}
use Rattle.std.specs.List.{AllByRecursion}
use Rattle.chr_value.specs.Atoms.{Atom}
use Rattle.chr_value.specs.Bounds.{greatest_label}
use Rattle.chr_value.specs.Stores.{Store}

-- the atoms, slot by slot
abbrev pub Held : Type 0
Held = List (Atom ℕ)

-- the atom in a slot, or none where there is no such slot
abbrev pub atom_in : Held → ℕ → Option (Atom ℕ)
atom_in held slot = slice_get held slot

-- the slot of a label that has no atom, to which the last free slot is linked
abbrev pub no_slot : ℕ
no_slot = 4294967295

-- what there is in each of these slots
abbrev pub held_in : Held → List ℕ → List (Option (Atom ℕ))
held_in held slots = map (atom_in held) slots

-- these atoms with their labels, where the first one has this label
abbrev pub entries_from : ℕ → List (Option (Atom ℕ)) → Store
entries_from label [] = []
entries_from label (None ∷ atoms) = entries_from (label + 1) atoms
entries_from label (Some a ∷ atoms) = (label, a) ∷ entries_from (label + 1) atoms

-- the index of a label's slot, which for 0, no label, is above those of all labels
pub record IsSlotOf (label i : ℕ) : Type 0 where
  pub own : 1 ≤ label → i + 1 ≡ label
  pub none : label ≡ 0 → greatest_label ≤ i

-- a slot that there is, and none of these others
pub record IsOwnSlot (held : Held) (slot : ℕ) (others : List ℕ) : Type 0 where
  pub there : slot < length held
  pub own : AllByRecursion (λ other. other ≢ slot) others

-- each label has a slot of its own, or none
abbrev pub AreApart : Held → List ℕ → Type 0
AreApart held [] = ⊤
AreApart held (slot ∷ slots) =
    ((slot ≡ no_slot) ⊎ IsOwnSlot held slot slots) × AreApart held slots

-- none of these slots is there twice
abbrev pub AreOnce : List ℕ → Type 0
AreOnce [] = ⊤
AreOnce (slot ∷ slots) = AllByRecursion (λ other. other ≢ slot) slots × AreOnce slots

-- each slot but those of the labels is a free one, and the labels keep within the greatest one
pub record IsTable (held : Held) (free slots : List ℕ) : Type 0 where
  pub counted : length (entries_from 1 (held_in held slots)) + length free ≡ length held
  pub within : length slots ≤ greatest_label
  pub fits : length held ≤ no_slot
  pub apart : AreApart held slots
  pub unused : AllByRecursion (λ slot. IsOwnSlot held slot slots) free
  pub once : AreOnce free

-- the free slots, each linked to the next by the name of the atom in it
abbrev pub AreLinked : Held → ℕ → List ℕ → Type 0
AreLinked held first [] = first ≡ no_slot
AreLinked held first (slot ∷ free) =
    (first ≡ slot) × (atom : Atom ℕ) × (atom_in held slot ≡ Some atom) × AreLinked held atom.name free

-- a table whose free slots are linked from this first one on, with this number of atoms
pub record HasTable (held : Held) (first number : ℕ) (slots : List ℕ) : Type 0 where
  pub free : List ℕ
  pub table : IsTable held free slots
  pub linked : AreLinked held first free
  pub count : number ≡ length (entries_from 1 (held_in held slots))

-- the label and the atom that an item shows
abbrev pub shown : ℕ × Bor (Atom ℕ) → ℕ × Atom ℕ
shown item = (item.0, item.1.now)
