-- The labels of each key, of which many stand in a bucket.
use Rattle.std.specs.Prelude.{◌≡◌, ℕ, true, List, [], ◌∷◌, IsSome}
use Rattle.std.specs.Option.{unwrap_or}
use Rattle.slab.specs.Slab.{Slab, get}
use Rattle.chr_index.specs.declared.table.Key.{Key}
use Rattle.chr_index.specs.declared.table.Link.{Link}
use Rattle.chr_index.specs.declared.table.Link.TheVariants as links
use Rattle.chr_index.specs.Chains.{Chained, link_in, same_key}

-- the table, and the labels in each bucket
pub record Indexed : Type 0 where
  pub table : Chained
  pub buckets : Slab (List ℕ)

-- the labels in a bucket, none where there is no such bucket
abbrev pub bucket_labels : Slab (List ℕ) → ℕ → List ℕ
bucket_labels buckets n = unwrap_or (get buckets n) []

abbrev pub labels_at : Slab (List ℕ) → Link → List ℕ
labels_at buckets links.Nowhere = []
labels_at buckets (links.Alone label) = label ∷ []
labels_at buckets (links.Bucket n) = bucket_labels buckets n

-- the labels of a key
abbrev pub labels_of : Indexed → Key → List ℕ
labels_of i k = labels_at i.buckets (link_in i.table k)

-- each bucket that a key has is there, and no other key has it
pub record IsIndex (table : Chained) (buckets : Slab (List ℕ)) : Type 0 where
  pub there : (k : Key) (n : ℕ) → link_in table k ≡ links.Bucket n → IsSome (get buckets n)
  pub own : (k l : Key) (n : ℕ) → link_in table k ≡ links.Bucket n →
      link_in table l ≡ links.Bucket n → same_key k l ≡ true
