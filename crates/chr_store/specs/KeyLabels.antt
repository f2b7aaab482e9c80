-- The labels of each key, in a table and in indexes, and what there is under each.
use Rattle.std.specs.Prelude.{◌≡◌, ℕ, zero, suc, ◌+◌, ◌*◌, ◌&&◌, if◌then◌else◌, Bool, List, [], ◌∷◌, Option, Some, None, nat_lt}
use Rattle.chr_value.specs.Atoms.{Atom}
use Rattle.chr_value.specs.Stores.{Store}
use Rattle.chr_index.specs.declared.table.Key.{Key as IndexKey}
use Rattle.chr_index.specs.Indexed.{Indexed, labels_of}
use Rattle.chr_value.specs.declared.atom.Pred.{Pred}
use Rattle.chr_store.specs.KeyParts.{Key, KeyValue, Sym, value_of, kind_of, word_of}
use Rattle.chr_store.specs.declared.buckets.Buckets.{Buckets}
use Rattle.chr_store.specs.Index.{Places, chosen, fits, is_own, number_of, pred_of, same_value}
use Rattle.chr_store.specs.Rows.{row_of, row_at}

-- the key of a value in the index of its place, and the labels there, where 64 bits can say it
abbrev pub index_key : KeyValue → IndexKey
index_key v = record { word = word_of v; kind = kind_of v }

abbrev pub is_word : KeyValue → Bool
is_word v = same_value v (value_of (kind_of v) (word_of v))

abbrev pub value_labels : Indexed → KeyValue → List ℕ
value_labels i v = if is_word v then labels_of i (index_key v) else []

-- the labels in the index with a number, past the last one none
abbrev pub index_at : List Indexed → ℕ → KeyValue → List ℕ
index_at [] n v = []
index_at (i ∷ is) zero v = value_labels i v
index_at (i ∷ is) (suc n) v = index_at is n v

abbrev pub place_labels : List Indexed → KeyValue → Option ℕ → List ℕ
place_labels indexes v None = []
place_labels indexes v (Some n) = index_at indexes n v

-- the labels of a predicate that has no row
abbrev pub other_key : Pred → KeyValue
other_key pred = Sym (pred.name.number * 256 + pred.arity)

abbrev pub other_labels : Indexed → Pred → List ℕ
other_labels i pred = if nat_lt pred.arity 256 then value_labels i (other_key pred) else []

-- the labels of a predicate: in a table where it has a row, and else in an index
abbrev pub pred_labels : List (List ℕ) → Indexed → Pred → Option ℕ → List ℕ
pred_labels rows others pred None = other_labels others pred
pred_labels rows others pred (Some row) = row_at rows row

-- the labels under a key
abbrev pub labels_in : {A : Type 0} → Buckets A → Key → List ℕ
labels_in b k =
    if is_own k then pred_labels b.rows b.others (pred_of k) (row_of (pred_of k))
    else place_labels b.indexes.items k.value (number_of b.places (pred_of k) k.place)

-- a key of the atom at a chosen place below n
abbrev pub reached : Places → Atom ℕ → ℕ → Key → Bool
reached places a n k = (chosen places (pred_of k) k.place && fits k a) && nat_lt k.place n

-- the labels are as before, but for a change of those under the keys that were reached
abbrev pub IsChanged : {A : Type 0} → (List ℕ → List ℕ) → Places → Atom ℕ → ℕ → Buckets A →
    Buckets A → Type 0
IsChanged f places a n old new =
    (k : Key) →
    labels_in new k ≡ (if reached places a n k then f (labels_in old k) else labels_in old k)

-- the labels of the atoms that have a key
abbrev pub labels_with : Key → Store → List ℕ
labels_with k [] = []
labels_with k (e ∷ es) = if fits k e.1 then e.0 ∷ labels_with k es else labels_with k es

-- under each key of a chosen place are exactly the labels of its atoms, once each and rising
abbrev pub IsIndexOf : {A : Type 0} → Places → Store → Buckets A → Type 0
IsIndexOf places es b =
    (k : Key) → labels_in b k ≡ (if chosen places (pred_of k) k.place then labels_with k es else [])
