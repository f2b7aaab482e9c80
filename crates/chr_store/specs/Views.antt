-- A store as the searches for partners of a label see it.
use Rattle.std.specs.Prelude.{◌≡◌, ℕ, ◌≤◌, Option, Some, None}
use Rattle.chr_value.specs.Atoms.{Atom}
use Rattle.chr_store.specs.Labels.{LabelledStore, IsLabelled, entered}

-- a store, and a label whose partners are looked for
pub record Seen : Type 0 where
  pub store : LabelledStore
  pub active : ℕ

-- the store as it is, or as it is once an atom is entered
abbrev pub seen_with : LabelledStore → Option (Atom ℕ) → LabelledStore
seen_with s None = s
seen_with s (Some a) = entered s a

-- an atom that isn't entered is shown under the next label, which is the active one and may be
-- given
abbrev pub IsNext : LabelledStore → Option (Atom ℕ) → ℕ → Type 0
IsNext s None active = Unit {0}
IsNext s (Some a) active = (active ≡ s.next) × (s.next ≤ s.limit)

pub record IsSeen (s : LabelledStore) (fresh : Option (Atom ℕ)) (active : ℕ) : Type 0 where
  pub labelled : IsLabelled s
  pub next : IsNext s fresh active
