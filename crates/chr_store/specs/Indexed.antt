-- A labelled store with an index.
use Rattle.std.specs.Prelude.{◌≡◌, ℕ, ◌<◌, ◌≤◌, List, Option, Some, MatchOption}
use Rattle.chr_store.specs.declared.buckets.Buckets.{Buckets}
use Rattle.chr_store.specs.Labels.{LabelledStore, IsLabelled}
use Rattle.chr_value.specs.Atoms.{Value, Atom}
use Rattle.chr_value.specs.Stores.{Store, atom_at}
use Rattle.chr_store.specs.Keys.{arg_at}
use Rattle.chr_index.specs.Buckets.{IsIn}
use Rattle.chr_store.specs.Index.{Places}
use Rattle.chr_store.specs.KeyLabels.{IsIndexOf}

-- the labels rise, were given, and keep the limit, and each key of a chosen place has exactly the
-- labels of its atoms, once each and rising
pub record IsIndexed {A : Type 0} (s : LabelledStore) (places : Places)
    (buckets : Buckets A) : Type 0 where
  pub labelled : IsLabelled s
  pub index : IsIndexOf places s.entries buckets

-- the atom under a label has a value at a place
pub record LabelHas (store : Store) (label place : ℕ) (v : Value ℕ) : Type 0 where
  pub atom : Atom ℕ
  pub there : atom_at store label ≡ Some atom
  pub has : arg_at atom place ≡ Some v

-- the least of these labels over one and under another whose atom has a value at a place
pub record IsFoundWith (store : Store) (n : ℕ) (v : Value ℕ) (ms : List ℕ) (after below l : ℕ)
    : Type 0 where
  pub there : IsIn l ms
  pub over : after < l
  pub under : l < below
  pub has : LabelHas store l n v
  pub least : (m : ℕ) → IsIn m ms → after < m → LabelHas store m n v → l ≤ m

-- that label, or none where there is none
abbrev pub IsLeastWith : Store → ℕ → Value ℕ → List ℕ → ℕ → ℕ → Option ℕ → Type 0
IsLeastWith store n v ms after below found =
    MatchOption found
    ((m : ℕ) → IsIn m ms → after < m → m < below → LabelHas store m n v → ⊥)
    (IsFoundWith store n v ms after below)
