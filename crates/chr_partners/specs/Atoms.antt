-- Atoms in slots, by label.
use Rattle.std.specs.Prelude.{◌≡◌, ℕ, zero, suc, ◌+◌, ◌==◌, ◌↔◌, if◌then◌else◌, true, List, [], ◌∷◌, length, slice_get, Option, Some, None}
use Rattle.std.specs.Option.{option_flatten}
use Rattle.chr_value.specs.Stores.{Store, atom_at}
use Rattle.slab.specs.Slab.{Slab, get}
use Rattle.chr_partners.specs.declared.atoms.Held.{Held}
use Rattle.chr_partners.specs.Partners.{ListedStore, IsIn}

module _ {A : Type 0} where
  -- what a slot has, where that is a label's
  abbrev pub owned : ℕ → Option (Held A) → Option (Held A)
  owned label None = None
  owned label (Some h) = if h.label == label then Some h else None

  -- what each label has from this one on, where these are their slots
  abbrev pub held_from : Slab (Held A) → ℕ → List ℕ → List (Option (Held A))
  held_from held label [] = []
  held_from held label (slot ∷ slots) =
      owned label (get held slot) ∷ held_from held (label + 1) slots

  -- the atoms of labels, the first of which is this one
  abbrev pub atoms_from : ℕ → List (Option (Held A)) → Store
  atoms_from label [] = []
  atoms_from label (None ∷ hs) = atoms_from (label + 1) hs
  atoms_from label (Some h ∷ hs) = (label, h.atom) ∷ atoms_from (label + 1) hs

  -- those that are listed
  abbrev pub listed_from : ℕ → List (Option (Held A)) → List ℕ
  listed_from label [] = []
  listed_from label (None ∷ hs) = listed_from (label + 1) hs
  listed_from label (Some h ∷ hs) =
      if h.listed then label ∷ listed_from (label + 1) hs else listed_from (label + 1) hs

  -- the store that all labels make
  abbrev pub seen_in : Slab (Held A) → List ℕ → ListedStore
  seen_in held slots =
      record {
        store = atoms_from 1 (held_from held 1 slots);
        listed = listed_from 1 (held_from held 1 slots);
        next = length slots + 1;
      }

  -- what a label has
  abbrev pub held_at : Slab (Held A) → List ℕ → ℕ → Option (Held A)
  held_at held slots zero = None
  held_at held slots (suc i) = option_flatten (slice_get (held_from held 1 slots) i)

  -- the slot of a label that has an atom
  pub record IsSlotOf (held : Slab (Held A)) (slots : List ℕ) (label slot : ℕ) : Type 0 where
    pub index : ℕ
    pub next : label ≡ suc index
    pub here : slice_get slots index ≡ Some slot
    pub has : Held A
    pub there : get held slot ≡ Some has
    pub own : has.label ≡ label

  -- a label has this
  pub record IsHeld (s : ListedStore) (l : ℕ) (h : Held A) : Type 0 where
    pub label : h.label ≡ l
    pub atom : atom_at s.store l ≡ Some h.atom
    pub listed : (h.listed ≡ true) ↔ IsIn l s.listed
