-- Labels under keys, in entries and in buckets.
use Rattle.std.proofs.Common.{◌≡◌, ℕ, if◌then◌else◌, Bool, true, false, List, [], Option, Some, None, IsSome, refl, sym, ap, subst, ◌∙◌, unwrap_or, inl, inr, Result, Ok, Err, OnOk, OnErr}
use Rattle.std.proofs.lemmas.Bool.{false≢true}
use Rattle.slab.specs.Slab.{Slab, get, Updates}
use Rattle.chr_index.specs.declared.table.Key.{Key}
use Rattle.chr_index.specs.declared.table.Link.{Link}
use Rattle.chr_index.specs.declared.table.Link.TheVariants as links
use Rattle.chr_index.specs.Chains.{Chained, link_in, same_key}
use Rattle.chr_index.specs.Indexed.{Indexed, labels_at, labels_of, IsIndex}
use Rattle.chr_index.proofs.Chaining.{same_key_true, same_key_refl, decided}

abbrev Buckets : Type 0
Buckets = Slab (List ℕ)

-- one key is linked anew, or to the bucket that it has, and only that bucket is touched
pub record IsRelinked (key : Key) (link : Link) (f g : Key → Link) (old new : Buckets) : Type 0 where
  pub linked : (k : Key) → g k ≡ (if same_key key k then link else f k)
  pub others : (k : Key) (n : ℕ) → same_key key k ≡ false → f k ≡ links.Bucket n → get new n ≡ get old n
  pub there : (n : ℕ) → link ≡ links.Bucket n → IsSome (get new n)
  pub own : (k : Key) (n : ℕ) → link ≡ links.Bucket n → f k ≡ links.Bucket n → same_key key k ≡ true

labels_same : (old new : Buckets) (l : Link) → ((n : ℕ) → l ≡ links.Bucket n → get new n ≡ get old n) → labels_at new l ≡ labels_at old l
labels_same old new links.Nowhere h = refl
labels_same old new (links.Alone label) h = refl
labels_same old new (links.Bucket n) h = ap (λ (o : Option (List ℕ)). unwrap_or o []) (h n refl)

module _ (key : Key) (link : Link) (t u : Chained) (old new : Buckets) (r : IsRelinked key link (link_in t) (link_in u) old new) where
  linked_own : (k : Key) → same_key key k ≡ true → link_in u k ≡ link
  linked_own k s = r.linked k ∙ ap (λ (b : Bool). if b then link else link_in t k) s

  linked_other : (k : Key) → same_key key k ≡ false → link_in u k ≡ link_in t k
  linked_other k s = r.linked k ∙ ap (λ (b : Bool). if b then link else link_in t k) s

  pub labels_relinked : (ms : List ℕ) → labels_at new link ≡ ms → (k : Key) → labels_at new (link_in u k) ≡ (if same_key key k then ms else labels_at old (link_in t k))
  labels_relinked ms e k = elim (decided (same_key key k)) [
    | inl s ↦ ap (labels_at new) (linked_own k s) ∙ e ∙ sym (ap (λ (b : Bool). if b then ms else labels_at old (link_in t k)) s)
    | inr s ↦ ap (labels_at new) (linked_other k s) ∙ labels_same old new (link_in t k) (λ n b. r.others k n s b) ∙ sym (ap (λ (b : Bool). if b then ms else labels_at old (link_in t k)) s)
  ]

  pub index_relinked : IsIndex t old → IsIndex u new
  index_relinked i = record {
    there = λ k n h. elim (decided (same_key key k)) [
      | inl s ↦ r.there n (sym (linked_own k s) ∙ h)
      | inr s ↦ let b : link_in t k ≡ links.Bucket n = sym (linked_other k s) ∙ h in subst (λ (o : Option (List ℕ)). IsSome o) (sym (r.others k n s b)) (i.there k n b)
    ];
    own = λ k l n h j. elim (decided (same_key key k)) [
      | inl s ↦ elim (decided (same_key key l)) [
        | inl w ↦ ap (same_key k) (sym (same_key_true key l w)) ∙ ap (λ (z : Key). same_key z key) (sym (same_key_true key k s)) ∙ same_key_refl key
        | inr w ↦ absurd (false≢true (sym w ∙ r.own l n (sym (linked_own k s) ∙ h) (sym (linked_other l w) ∙ j)))
      ]
      | inr s ↦ elim (decided (same_key key l)) [
        | inl w ↦ absurd (false≢true (sym s ∙ r.own k n (sym (linked_own l w) ∙ j) (sym (linked_other k s) ∙ h)))
        | inr w ↦ i.own k l n (sym (linked_other k s) ∙ h) (sym (linked_other l w) ∙ j)
      ]
    ];
  }

-- where the links are as before, and the buckets have what they had
pub index_same : (t u : Chained) (old : Buckets) → ((k : Key) → link_in u k ≡ link_in t k) → IsIndex t old → IsIndex u old
index_same t u old h i = record { there = λ k n b. i.there k n (sym (h k) ∙ b); own = λ k l n b d. i.own k l n (sym (h k) ∙ b) (sym (h l) ∙ d) }

-- ---- what is relinked

-- a key whose labels stand in its entry, or nowhere
relinked_entry : (key : Key) (link : Link) (t u : Chained) (old : Buckets) → ((n : ℕ) → link ≡ links.Bucket n → ⊥) → ((k : Key) → link_in u k ≡ (if same_key key k then link else link_in t k)) → IsRelinked key link (link_in t) (link_in u) old old
relinked_entry key link t u old away h = record { linked = h; others = λ k n s b. refl; there = λ n b. absurd (away n b); own = λ k n b d. absurd (away n b) }

pub relinked_nowhere : (key : Key) (t u : Chained) (old : Buckets) → ((k : Key) → link_in u k ≡ (if same_key key k then links.Nowhere else link_in t k)) → IsRelinked key links.Nowhere (link_in t) (link_in u) old old
relinked_nowhere key t u old h = relinked_entry key links.Nowhere t u old (λ n b. cc) h

pub relinked_alone : (key : Key) (label : ℕ) (t u : Chained) (old : Buckets) → ((k : Key) → link_in u k ≡ (if same_key key k then links.Alone label else link_in t k)) → IsRelinked key (links.Alone label) (link_in t) (link_in u) old old
relinked_alone key label t u old h = relinked_entry key (links.Alone label) t u old (λ n b. cc) h

-- a key's only label was set in its entry, or not
pub index_set : {X E : Type 0} (r : Result X E) (key : Key) (t u : Chained) (old : Buckets) (label : ℕ) → OnOk r ((k : Key) → link_in u k ≡ (if same_key key k then links.Alone label else link_in t k)) → OnErr r ((k : Key) → link_in u k ≡ link_in t k) → IsIndex t old → IsIndex u old
index_set (Ok x) key t u old label ok err i = index_relinked key (links.Alone label) t u old old (relinked_alone key label t u old ok) i
index_set (Err e) key t u old label ok err i = index_same t u old err i

one_bucket : (m n : ℕ) → links.Bucket m ≡ links.Bucket n → m ≡ n
one_bucket m n h = cc

some_there : (o : Option (List ℕ)) (ms : List ℕ) → o ≡ Some ms → IsSome o
some_there o ms h = subst (λ (z : Option (List ℕ)). IsSome z) (sym h) refl

none_there : (o : Option (List ℕ)) → o ≡ None → IsSome o → ⊥
none_there o h s = false≢true (subst (λ (z : Option (List ℕ)). IsSome z) h s)

module _ (key : Key) (n : ℕ) (t u : Chained) (old new : Buckets) (i : IsIndex t old) where
  -- a key gets a new bucket
  pub relinked_new : (ms : List ℕ) → get old n ≡ None → Updates old new n (Some ms) → ((k : Key) → link_in u k ≡ (if same_key key k then links.Bucket n else link_in t k)) → IsRelinked key (links.Bucket n) (link_in t) (link_in u) old new
  relinked_new ms vacant up h = record {
    linked = h;
    others = λ k m s b. up.others m (λ e. none_there (get old m) (ap (get old) e ∙ vacant) (i.there k m b));
    there = λ m b. some_there (get new m) ms (ap (get new) (sym (one_bucket n m b)) ∙ up.changed);
    own = λ k m b d. absurd (none_there (get old m) (ap (get old) (sym (one_bucket n m b)) ∙ vacant) (i.there k m d));
  }

  others_own : (k : Key) (m : ℕ) → link_in t key ≡ links.Bucket n → same_key key k ≡ false → link_in t k ≡ links.Bucket m → m ≡ n → ⊥
  others_own k m here s b e = false≢true (sym s ∙ i.own key k n here (b ∙ ap (λ (z : ℕ). links.Bucket z) e))

  -- the bucket of a key has other labels
  pub relinked_bucket : (ms : List ℕ) → link_in t key ≡ links.Bucket n → Updates old new n (Some ms) → IsRelinked key (links.Bucket n) (link_in t) (link_in t) old new
  relinked_bucket ms here up = record {
    linked = λ k. elim (decided (same_key key k)) [
      | inl s ↦ ap (link_in t) (sym (same_key_true key k s)) ∙ here ∙ sym (ap (λ (b : Bool). if b then links.Bucket n else link_in t k) s)
      | inr s ↦ sym (ap (λ (b : Bool). if b then links.Bucket n else link_in t k) s)
    ];
    others = λ k m s b. up.others m (others_own k m here s b);
    there = λ m b. some_there (get new m) ms (ap (get new) (sym (one_bucket n m b)) ∙ up.changed);
    own = λ k m b d. i.own key k m (here ∙ b) d;
  }

  -- the bucket of a key has gone
  pub relinked_gone : link_in t key ≡ links.Bucket n → Updates old new n None → ((k : Key) → link_in u k ≡ (if same_key key k then links.Nowhere else link_in t k)) → IsRelinked key links.Nowhere (link_in t) (link_in u) old new
  relinked_gone here up h = record {
    linked = h;
    others = λ k m s b. up.others m (others_own k m here s b);
    there = λ m b. absurd (cc);
    own = λ k m b d. absurd (cc);
  }

-- ---- what an index has then

module _ (t : Chained) (old : Buckets) (seen : Indexed) (view : record { table = t; buckets = old } ≡ seen) (key : Key) where
  pub own_labels : (l : Link) → link_in t key ≡ l → labels_of seen key ≡ labels_at old l
  own_labels l h = ap (λ (s : Indexed). labels_of s key) (sym view) ∙ ap (labels_at old) h

  pub labels_changed : (F : List ℕ → List ℕ) (l link : Link) (u : Chained) (new : Buckets) → link_in t key ≡ l → IsRelinked key link (link_in t) (link_in u) old new → labels_at new link ≡ F (labels_at old l)
      → (k : Key) → labels_at new (link_in u k) ≡ (if same_key key k then F (labels_of seen key) else labels_of seen k)
  labels_changed F l link u new h r e k =
      labels_relinked key link t u old new r (F (labels_of seen key)) (e ∙ ap F (sym (own_labels l h))) k
      ∙ ap (λ (s : Indexed). if same_key key k then F (labels_of seen key) else labels_of s k) view
