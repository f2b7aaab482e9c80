-- A table of keys: the entries in the order in which the keys came, in chains by their homes.
use Rattle.std.specs.Prelude.{◌≡◌, ℕ, zero, suc, ◌+◌, ◌*◌, ◌/◌, ◌%◌, ◌^◌, ◌<◌, ◌&&◌, if◌then◌else◌, Bool, true, false, List, [], ◌∷◌, Option, None, Some, nat_eq, map, take, length, slice_get, slice_index}
use Rattle.chr_index.specs.declared.table.Kind.{Kind}
use Rattle.chr_index.specs.declared.table.Kind.TheVariants as kinds
use Rattle.chr_index.specs.declared.table.Key.{Key}
use Rattle.chr_index.specs.declared.table.State.{State}
use Rattle.chr_index.specs.declared.table.State.TheVariants as states
use Rattle.chr_index.specs.declared.table.Link.{Link}
use Rattle.chr_index.specs.declared.table.Link.TheVariants as links
use Rattle.chr_index.specs.declared.table.Entry.{Entry}

-- where the chain of each home begins, the entries, and by how much a hash is shifted to give a home
pub record Chained : Type 0 where
  pub chains : List ℕ
  pub entries : List Entry
  pub shift : ℕ

-- whether two keys are equal
abbrev pub same_kind : Kind → Kind → Bool
same_kind kinds.Int kinds.Int = true
same_kind kinds.Int kinds.Sym = false
same_kind kinds.Int kinds.Digest = false
same_kind kinds.Sym kinds.Int = false
same_kind kinds.Sym kinds.Sym = true
same_kind kinds.Sym kinds.Digest = false
same_kind kinds.Digest kinds.Int = false
same_kind kinds.Digest kinds.Sym = false
same_kind kinds.Digest kinds.Digest = true

abbrev pub same_key : Key → Key → Bool
same_key k l = nat_eq k.word l.word && same_kind k.kind l.kind

-- an entry's key, and those of all entries
abbrev pub key_of : Entry → Key
key_of e = record { word = e.high * 2 ^ 32 + e.low; kind = e.kind }

abbrev pub keys_of : List Entry → List Key
keys_of es = map key_of es

-- where the labels of an entry's key are
abbrev pub linked : State → ℕ → Link
linked states.Bare n = links.Nowhere
linked states.Alone n = links.Alone n
linked states.Bucket n = links.Bucket n

-- whether it has any
abbrev pub is_labelled : State → Bool
is_labelled states.Bare = false
is_labelled states.Alone = true
is_labelled states.Bucket = true

abbrev pub has_labels : Entry → Bool
has_labels e = is_labelled e.state

-- the place of the last key of which a test says true; places are counted from 1, and 0 is none
abbrev pub last_with : (Key → Bool) → List Key → ℕ
last_with p [] = 0
last_with p (k ∷ ks) =
    if nat_eq (last_with p ks) 0 then (if p k then 1 else 0) else last_with p ks + 1

-- the place of a key's entry
abbrev pub place_of : Chained → Key → ℕ
place_of t k = last_with (same_key k) (keys_of t.entries)

-- where the labels are of the key at a place
abbrev pub entry_link : Option Entry → Link
entry_link None = links.Nowhere
entry_link (Some e) = linked e.state e.link

abbrev pub link_at : List Entry → ℕ → Link
link_at es zero = links.Nowhere
link_at es (suc i) = entry_link (slice_get es i)

-- where the labels of a key are
abbrev pub link_in : Chained → Key → Link
link_in t k = link_at t.entries (place_of t k)

-- the home of a key, and whether it is a given one
abbrev pub home : ℕ → Key → ℕ
home shift k = ((k.word * 11400714819323198485) % 2 ^ 64) / 2 ^ shift

abbrev pub has_home : ℕ → ℕ → Key → Bool
has_home shift h k = nat_eq (home shift k) h

-- the chain of each home begins at the place of its last entry, and the next place of each entry is that of
-- the last one before it that has the same home
pub record IsChained (shift : ℕ) (chains : List ℕ) (entries : List Entry) : Type 0 where
  pub begin : (h : ℕ) → slice_index chains h ≡ last_with (has_home shift h) (keys_of entries)
  pub next : (i : ℕ) (e : Entry) → slice_get entries i ≡ Some e →
      e.next ≡ last_with (has_home shift (home shift (key_of e))) (take i (keys_of entries))

-- no key comes twice
abbrev pub KeysDiffer : List Key → Type 0
KeysDiffer [] = Unit {0}
KeysDiffer (k ∷ ks) = (last_with (same_key k) ks ≡ 0) × KeysDiffer ks

-- the keys differ, their entries are chained, each place fits in 32 bits, and where there are chains
-- each home has one
pub record IsTable (t : Chained) : Type 0 where
  pub shift : t.shift < 64
  pub places : length t.entries < 2 ^ 32
  pub homes : 0 < length t.chains → (k : Key) → home t.shift k < length t.chains
  pub chained : IsChained t.shift t.chains t.entries
  pub differ : KeysDiffer (keys_of t.entries)

-- the same keys at the same places, with the same links
pub record HasSameLinks (old new : List Entry) : Type 0 where
  pub keys : keys_of new ≡ keys_of old
  pub links : (place : ℕ) → link_at new place ≡ link_at old place
