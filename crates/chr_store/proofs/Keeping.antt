-- Labels under keys, in rows and indexes.
use Rattle.std.proofs.Common.{◌≡◌, ℕ, zero, suc, ◌+◌, ◌*◌, ◌<◌, ◌≤◌, ◌&&◌, if◌then◌else◌, cond, Bool, true, false, List, [], ◌∷◌, ◌++◌, Option, Some, None, is_some, refl, sym, ap, subst, arith, length, ◌∙◌, get_or, slice_set, nat_eq, nat_lt, inl, inr}
use Rattle.std.specs.List.{position_from}
use Rattle.std.proofs.lemmas.Bool.{and_parts, and_from, eq-eqb, eqb-true, false≢true, lt-ltb}
use Rattle.std.proofs.lemmas.Bool.Decides.{nat_tests}
use Rattle.chr_value.specs.Atoms.{Atom}
use Rattle.chr_value.specs.declared.atom.Pred.{Pred}
use Rattle.chr_index.specs.declared.table.Key.{Key as IndexKey}
use Rattle.chr_index.specs.Chains.{same_key as same_index_key}
use Rattle.chr_index.specs.Indexed.{Indexed, labels_of}
use Rattle.chr_index.proofs.Chaining.{same_key_true as index_key_true, same_key_refl as index_key_refl, decided}
use Rattle.chr_store.specs.declared.buckets.Buckets.{Buckets}
use Rattle.chr_store.specs.KeyParts.{Key, KeyValue, value_of, kind_of, word_of}
use Rattle.chr_store.specs.Index.{Places, IsKeyAt, chosen, is_own, is_pred, is_place, number_of, own_key, pred_of, same_key, same_value}
use Rattle.chr_store.specs.Rows.{row_of, row_at}
use Rattle.chr_store.specs.KeyLabels.{index_key, is_word, value_labels, index_at, place_labels, other_key, other_labels, pred_labels, labels_in}
use Rattle.chr_store.proofs.Marks.{tells, chosen_numbered}
use Rattle.chr_store.proofs.Stored.{pred_one}
use Rattle.chr_store.proofs.KeyLaws.{same_key_true, same_value_true, same_value_refl}

-- ---- values in an index

-- a value that 64 bits can say has its key alone
value_one : (v w : KeyValue) → is_word v ≡ true → is_word w ≡ true → same_index_key (index_key v) (index_key w) ≡ true → v ≡ w
value_one v w a b h =
    same_value_true v (value_of (kind_of v) (word_of v)) a ∙ ap (λ (k : IndexKey). value_of k.kind k.word) (index_key_true (index_key v) (index_key w) h) ∙ sym (same_value_true w (value_of (kind_of w) (word_of w)) b)

pub value_changed : (old new : Indexed) (v : KeyValue) (ms : List ℕ) → is_word v ≡ true → ((k : IndexKey) → labels_of new k ≡ (if same_index_key (index_key v) k then ms else labels_of old k)) → (w : KeyValue) → value_labels new w ≡ (if same_value v w then ms else value_labels old w)
value_changed old new v ms word set w = elim (decided (same_value v w)) [
  | inl s ↦
      let e : v ≡ w = same_value_true v w s in
      ap (λ (b : Bool). if b then labels_of new (index_key w) else []) (ap is_word (sym e) ∙ word) ∙ set (index_key w)
      ∙ ap (λ (b : Bool). if b then ms else labels_of old (index_key w)) (ap (λ (z : KeyValue). same_index_key (index_key v) (index_key z)) (sym e) ∙ index_key_refl (index_key v)) ∙ sym (ap (λ (b : Bool). if b then ms else value_labels old w) s)
  | inr s ↦ elim (decided (is_word w)) [
    | inl t ↦
        ap (λ (b : Bool). if b then labels_of new (index_key w) else []) t ∙ set (index_key w) ∙ ap (λ (b : Bool). if b then ms else labels_of old (index_key w)) (apart t s)
        ∙ sym (ap (λ (b : Bool). if b then labels_of old (index_key w) else []) t)
    | inr t ↦ ap (λ (b : Bool). if b then labels_of new (index_key w) else []) t ∙ sym (ap (λ (b : Bool). if b then labels_of old (index_key w) else []) t)
  ] ∙ sym (ap (λ (b : Bool). if b then ms else value_labels old w) s)
]
  where
    apart : is_word w ≡ true → same_value v w ≡ false → same_index_key (index_key v) (index_key w) ≡ false
    apart t s = elim (decided (same_index_key (index_key v) (index_key w))) [
      | inl h ↦ absurd (false≢true (sym s ∙ ap (same_value v) (sym (value_one v w word t h)) ∙ same_value_refl v))
      | inr h ↦ h
    ]

pub value_same : (old new : Indexed) → ((k : IndexKey) → labels_of new k ≡ labels_of old k) → (w : KeyValue) → value_labels new w ≡ value_labels old w
value_same old new same w = ap (λ (ms : List ℕ). if is_word w then ms else []) (same (index_key w))

-- ---- predicates without rows

abbrev pred_from : ℕ → ℕ → Pred
pred_from n m = record { name = record { number = n }; arity = m }

pub is_pred_true : (p q : Pred) → is_pred p q ≡ true → p ≡ q
is_pred_true p q h =
    let both = and_parts _ _ h in
    ap (λ (z : ℕ). pred_from z p.arity) (eqb-true _ _ both.0) ∙ ap (λ (z : ℕ). pred_from q.name.number z) (eqb-true _ _ both.1)

pub is_pred_refl : (p : Pred) → is_pred p p ≡ true
is_pred_refl p = and_from _ _ (eq-eqb p.name.number p.name.number refl) (eq-eqb p.arity p.arity refl)

other_one : (p q : Pred) → p.arity < 256 → q.arity < 256 → same_value (other_key p) (other_key q) ≡ is_pred p q
other_one p q a b =
    tells (same_value (other_key p) (other_key q)) (is_pred p q) (λ h.
    let n : p.name.number * 256 + p.arity ≡ q.name.number * 256 + q.arity = eqb-true _ _ h in
    let name : p.name.number ≡ q.name.number = omega (arith, n, a, b) in
    let arity : p.arity ≡ q.arity = omega (arith, n, name) in
    and_from _ _ (eq-eqb _ _ name) (eq-eqb _ _ arity)) (λ h. ap (λ (z : Pred). same_value (other_key p) (other_key z)) (sym (is_pred_true p q h)) ∙ same_value_refl (other_key p))

pub other_changed : (old new : Indexed) (pred : Pred) (ms : List ℕ) → pred.arity < 256 → ((k : IndexKey) → labels_of new k ≡ (if same_index_key (index_key (other_key pred)) k then ms else labels_of old k)) → (p : Pred) → other_labels new p ≡ (if is_pred pred p then ms else other_labels old p)
other_changed old new pred ms few set p = elim (decided (nat_lt p.arity 256)) [
  | inl t ↦
      ap (λ (b : Bool). if b then value_labels new (other_key p) else []) t ∙ value_changed old new (other_key pred) ms (same_value_refl (other_key pred)) set (other_key p)
      ∙ ap (λ (b : Bool). if b then ms else value_labels old (other_key p)) (other_one pred p few (below p.arity t))
      ∙ ap (λ (zs : List ℕ). if is_pred pred p then ms else zs) (sym (ap (λ (b : Bool). if b then value_labels old (other_key p) else []) t))
  | inr t ↦
      ap (λ (b : Bool). if b then value_labels new (other_key p) else []) t ∙ sym (ap (λ (b : Bool). if b then value_labels old (other_key p) else []) t)
      ∙ sym (ap (λ (b : Bool). if b then ms else other_labels old p) (apart t))
]
  where
    below : (n : ℕ) → nat_lt n 256 ≡ true → n < 256
    below n t = grind (arith, nat_tests)

    apart : nat_lt p.arity 256 ≡ false → is_pred pred p ≡ false
    apart t = elim (decided (is_pred pred p)) [
      | inl s ↦ absurd (false≢true (sym t ∙ ap (λ (z : Pred). nat_lt z.arity 256) (sym (is_pred_true pred p s)) ∙ lt-ltb pred.arity 256 few))
      | inr s ↦ s
    ]

other_is : (i : Indexed) (pred : Pred) → pred.arity < 256 → other_labels i pred ≡ labels_of i (index_key (other_key pred))
other_is i pred few = ap (λ (b : Bool). if b then value_labels i (other_key pred) else []) (lt-ltb pred.arity 256 few) ∙ ap (λ (b : Bool). if b then labels_of i (index_key (other_key pred)) else []) (same_value_refl (other_key pred))

-- a change of those under a predicate's key, as its key is called
pub other_put : (F : List ℕ → List ℕ) (old new : Indexed) (pred : Pred) (key : IndexKey) → key ≡ index_key (other_key pred) → pred.arity < 256 → ((k : IndexKey) → labels_of new k ≡ (if same_index_key key k then F (labels_of old key) else labels_of old k))
    → (p : Pred) → other_labels new p ≡ (if is_pred pred p then F (other_labels old pred) else other_labels old p)
other_put F old new pred key is few set =
    other_changed old new pred (F (other_labels old pred)) few (λ k. set k ∙ ap (λ (z : IndexKey). if same_index_key z k then F (labels_of old z) else labels_of old k) is ∙ ap (λ (zs : List ℕ). if same_index_key (index_key (other_key pred)) k then F zs else labels_of old k) (sym (other_is old pred few)))

pub other_same : (old new : Indexed) → ((k : IndexKey) → labels_of new k ≡ labels_of old k) → (p : Pred) → other_labels new p ≡ other_labels old p
other_same old new same p = ap (λ (ms : List ℕ). if nat_lt p.arity 256 then ms else []) (value_same old new same (other_key p))

-- ---- indexes by numbers

pub index_past : (is : List Indexed) (n : ℕ) (v : KeyValue) → length is ≤ n → index_at is n v ≡ []
index_past [] n v h = refl
index_past (i ∷ is) zero v h = absurd (omega arith)
index_past (i ∷ is) (suc n) v h = index_past is n v (omega arith)

pub index_got : (is : List Indexed) (n : ℕ) (d : Indexed) (v : KeyValue) → n < length is → index_at is n v ≡ value_labels (get_or is n d) v
index_got [] n d v h = absurd (omega arith)
index_got (i ∷ is) zero d v h = refl
index_got (i ∷ is) (suc n) d v h = index_got is n d v (omega arith)

index_set : (is : List Indexed) (n : ℕ) (i : Indexed) (m : ℕ) (v : KeyValue) → n < length is → index_at (slice_set is n i) m v ≡ (if nat_eq n m then value_labels i v else index_at is m v)
index_set [] n i m v h = absurd (omega arith)
index_set (j ∷ is) zero i zero v h = refl
index_set (j ∷ is) zero i (suc m) v h = grind (arith, nat_tests)
index_set (j ∷ is) (suc n) i zero v h = grind (arith, nat_tests)
index_set (j ∷ is) (suc n) i (suc m) v h = index_set is n i m v (omega arith) ∙ ap (λ (b : Bool). if b then value_labels i v else index_at is m v) (next n m)
  where
    next : (n m : ℕ) → nat_eq n m ≡ nat_eq (suc n) (suc m)
    next n m = grind (arith, nat_tests)

pub index_changed : (is : List Indexed) (n : ℕ) (d i : Indexed) (v : KeyValue) (ms : List ℕ) → n < length is → is_word v ≡ true → ((k : IndexKey) → labels_of i k ≡ (if same_index_key (index_key v) k then ms else labels_of (get_or is n d) k))
    → (m : ℕ) (w : KeyValue) → index_at (slice_set is n i) m w ≡ (if nat_eq n m && same_value v w then ms else index_at is m w)
index_changed is n d i v ms h word set m w = index_set is n i m w h ∙ elim (decided (nat_eq n m)) [
  | inl t ↦
      ap (λ (b : Bool). if b then value_labels i w else index_at is m w) t ∙ value_changed (get_or is n d) i v ms word set w
      ∙ ap (λ (zs : List ℕ). if same_value v w then ms else zs) (sym (index_got is n d w h) ∙ ap (λ (z : ℕ). index_at is z w) (eqb-true n m t)) ∙ sym (ap (λ (b : Bool). if b && same_value v w then ms else index_at is m w) t)
  | inr t ↦ ap (λ (b : Bool). if b then value_labels i w else index_at is m w) t ∙ sym (ap (λ (b : Bool). if b && same_value v w then ms else index_at is m w) t)
]

pub index_is : (is : List Indexed) (n : ℕ) (d : Indexed) (v : KeyValue) → n < length is → is_word v ≡ true → index_at is n v ≡ labels_of (get_or is n d) (index_key v)
index_is is n d v h word = index_got is n d v h ∙ ap (λ (b : Bool). if b then labels_of (get_or is n d) (index_key v) else []) word

-- a change of those of a value in one index, as its key is called
pub index_put : (F : List ℕ → List ℕ) (is : List Indexed) (n : ℕ) (d i : Indexed) (v : KeyValue) (key : IndexKey) → key ≡ index_key v → n < length is → is_word v ≡ true → ((k : IndexKey) → labels_of i k ≡ (if same_index_key key k then F (labels_of (get_or is n d) key) else labels_of (get_or is n d) k))
    → (m : ℕ) (w : KeyValue) → index_at (slice_set is n i) m w ≡ (if nat_eq n m && same_value v w then F (index_at is n v) else index_at is m w)
index_put F is n d i v key e h word set =
    index_changed is n d i v (F (index_at is n v)) h word (λ k. set k ∙ ap (λ (z : IndexKey). if same_index_key z k then F (labels_of (get_or is n d) z) else labels_of (get_or is n d) k) e ∙ ap (λ (zs : List ℕ). if same_index_key (index_key v) k then F zs else labels_of (get_or is n d) k) (sym (index_is is n d v h word)))

pub index_same : (is : List Indexed) (n : ℕ) (d i : Indexed) → n < length is → ((k : IndexKey) → labels_of i k ≡ labels_of (get_or is n d) k) → (m : ℕ) (w : KeyValue) → index_at (slice_set is n i) m w ≡ index_at is m w
index_same is n d i h same m w = index_set is n i m w h ∙ elim (decided (nat_eq n m)) [
  | inl t ↦ ap (λ (b : Bool). if b then value_labels i w else index_at is m w) t ∙ value_same (get_or is n d) i same w ∙ sym (index_got is n d w h) ∙ ap (λ (z : ℕ). index_at is z w) (eqb-true n m t)
  | inr t ↦ ap (λ (b : Bool). if b then value_labels i w else index_at is m w) t
]

-- one index more, without labels
pub index_pushed : (is : List Indexed) (i : Indexed) (n : ℕ) (v : KeyValue) → ((k : IndexKey) → labels_of i k ≡ []) → index_at (is ++ i ∷ []) n v ≡ index_at is n v
index_pushed [] i zero v none = elim (decided (is_word v)) [
  | inl t ↦ ap (λ (b : Bool). if b then labels_of i (index_key v) else []) t ∙ none (index_key v)
  | inr t ↦ ap (λ (b : Bool). if b then labels_of i (index_key v) else []) t
]
index_pushed [] i (suc n) v none = refl
index_pushed (j ∷ is) i zero v none = refl
index_pushed (j ∷ is) i (suc n) v none = index_pushed is i n v none

-- past the last index no label is taken
pub index_past_taken : (F : List ℕ → List ℕ) (is : List Indexed) (n : ℕ) (v : KeyValue) → F [] ≡ [] → length is ≤ n → (m : ℕ) (w : KeyValue) → index_at is m w ≡ (if nat_eq n m && same_value v w then F (index_at is n v) else index_at is m w)
index_past_taken F is n v none h m w = elim (decided (nat_eq n m && same_value v w)) [
  | inl t ↦
      let e : n ≡ m = eqb-true n m (and_parts _ _ t).0 in
      index_past is m w (subst (λ (z : ℕ). length is ≤ z) e h) ∙ sym none ∙ ap F (sym (index_past is n v h)) ∙ sym (ap (λ (b : Bool). if b then F (index_at is n v) else index_at is m w) t)
  | inr t ↦ sym (ap (λ (b : Bool). if b then F (index_at is n v) else index_at is m w) t)
]

-- the same where the indexes were first made longer
module _ (F : List ℕ → List ℕ) (was is : List Indexed) (n : ℕ) (d i : Indexed) (v : KeyValue) (key : IndexKey) (same : (m : ℕ) (w : KeyValue) → index_at is m w ≡ index_at was m w) (e : key ≡ index_key v) (h : n < length is) (word : is_word v ≡ true) where
  pub grown_labels : index_at was n v ≡ labels_of (get_or is n d) key
  grown_labels = sym (same n v) ∙ index_is is n d v h word ∙ ap (labels_of (get_or is n d)) (sym e)

  pub grown_put : ((k : IndexKey) → labels_of i k ≡ (if same_index_key key k then F (labels_of (get_or is n d) key) else labels_of (get_or is n d) k))
      → (m : ℕ) (w : KeyValue) → index_at (slice_set is n i) m w ≡ (if nat_eq n m && same_value v w then F (index_at was n v) else index_at was m w)
  grown_put set m w =
      index_put F is n d i v key e h word set m w ∙ ap (λ (zs : List ℕ). if nat_eq n m && same_value v w then F zs else index_at is m w) (same n v)
      ∙ ap (λ (zs : List ℕ). if nat_eq n m && same_value v w then F (index_at was n v) else zs) (same m w)

  pub grown_same : ((k : IndexKey) → labels_of i k ≡ labels_of (get_or is n d) k) → (m : ℕ) (w : KeyValue) → index_at (slice_set is n i) m w ≡ index_at was m w
  grown_same kept m w = index_same is n d i h kept m w ∙ same m w

-- ---- numbers of places

found_from : {X : Type 0} (t : X → Bool) (s n : ℕ) (xs : List X) → position_from t s xs ≡ Some n → s ≤ n
found_from t s n [] h = absurd (cc)
found_from t s n (x ∷ xs) h = elim (t x) as (λ b. cond b (Some s) (position_from t (s + 1) xs) ≡ Some n → s ≤ n) [
  | true ↦ λ e. let z : s ≡ n = cc in omega arith
  | false ↦ λ e. let z : s + 1 ≤ n = found_from t (s + 1) n xs e in omega arith
] h

-- what is found at one place passes both tests
found_both : {X : Type 0} (t u : X → Bool) (s n : ℕ) (xs : List X) → position_from t s xs ≡ Some n → position_from u s xs ≡ Some n → (x : X) × (t x ≡ true) × (u x ≡ true)
found_both t u s n [] h j = absurd (cc)
found_both t u s n (x ∷ xs) h j = elim (decided (t x)) [
  | inl a ↦ elim (decided (u x)) [
    | inl b ↦ (x, a, b)
    | inr b ↦
        let e : Some s ≡ Some n = sym (ap (λ (z : Bool). cond z (Some s) (position_from t (s + 1) xs)) a) ∙ h in
        let w : s + 1 ≤ n = found_from u (s + 1) n xs (sym (ap (λ (z : Bool). cond z (Some s) (position_from u (s + 1) xs)) b) ∙ j) in
        let z : s ≡ n = cc in absurd (omega arith)
  ]
  | inr a ↦ elim (decided (u x)) [
    | inl b ↦
        let e : Some s ≡ Some n = sym (ap (λ (z : Bool). cond z (Some s) (position_from u (s + 1) xs)) b) ∙ j in
        let w : s + 1 ≤ n = found_from t (s + 1) n xs (sym (ap (λ (z : Bool). cond z (Some s) (position_from t (s + 1) xs)) a) ∙ h) in
        let z : s ≡ n = cc in absurd (omega arith)
    | inr b ↦ found_both t u (s + 1) n xs (sym (ap (λ (z : Bool). cond z (Some s) (position_from t (s + 1) xs)) a) ∙ h) (sym (ap (λ (z : Bool). cond z (Some s) (position_from u (s + 1) xs)) b) ∙ j)
  ]
]

-- a number has one place
number_one : (ps : Places) (p q : Pred) (i j n : ℕ) → number_of ps p i ≡ Some n → number_of ps q j ≡ Some n → (is_pred p q && nat_eq i j) ≡ true
number_one ps p q zero j n h k = absurd (cc)
number_one ps p q (suc i) zero n h k = absurd (cc)
number_one ps p q (suc i) (suc j) n h k =
    let both = found_both (is_place p (suc i)) (is_place q (suc j)) 0 n ps h k in
    let a = and_parts _ _ both.1 in
    let b = and_parts _ _ both.2 in
    let one : p ≡ q = sym (is_pred_true both.0.0 p a.0) ∙ is_pred_true both.0.0 q b.0 in
    and_from _ _ (ap (is_pred p) (sym one) ∙ is_pred_refl p) (eq-eqb _ _ (sym (eqb-true _ _ a.1) ∙ eqb-true _ _ b.1))

-- a place with a number is not 0
place_over : (ps : Places) (p : Pred) (i n : ℕ) → number_of ps p i ≡ Some n → 0 < i
place_over ps p zero n h = absurd (cc)
place_over ps p (suc i) n h = omega arith

pub chosen_some : (ps qs : Places) (pred : Pred) (place n : ℕ) (o : Option ℕ) → qs ≡ ps → o ≡ number_of qs pred place → o ≡ Some n → (0 < place) × (chosen ps pred place ≡ true)
chosen_some ps qs pred place n o same e is =
    let there : number_of ps pred place ≡ Some n = ap (λ (z : Places). number_of z pred place) (sym same) ∙ sym e ∙ is in
    let over = place_over ps pred place n there in
    (over, chosen_numbered ps pred place over ∙ ap (λ (z : Option ℕ). is_some z) there)

pub chosen_none : (ps qs : Places) (pred : Pred) (place : ℕ) (o : Option ℕ) → 0 < place → qs ≡ ps → o ≡ number_of qs pred place → o ≡ None → chosen ps pred place ≡ false
chosen_none ps qs pred place o over same e is = chosen_numbered ps pred place over ∙ ap (λ (z : Option ℕ). is_some z) (ap (λ (z : Places). number_of z pred place) (sym same) ∙ sym e ∙ is)

-- the number of an atom's place is that of its key there
pub number_key : (ps : Places) (a : Atom ℕ) (kk : Key) (pred : Pred) (place n : ℕ) (o : Option ℕ) → IsKeyAt a place kk → pred.name.number ≡ a.name → pred.arity ≡ length a.args → o ≡ number_of ps pred place → o ≡ Some n → number_of ps (pred_of kk) kk.place ≡ Some n
number_key ps a kk pred place n o h name arity e is =
    ap (λ (z : Pred). number_of ps z kk.place) (pred_one (pred_of kk) pred (h.name ∙ sym name) (h.arity ∙ sym arity)) ∙ ap (number_of ps pred) h.place ∙ sym e ∙ is

-- ---- the labels of all keys

pub own_others : {A : Type 0} (b : Buckets A) (pred : Pred) → row_of pred ≡ None → labels_in b (own_key pred) ≡ other_labels b.others pred
own_others b pred none = ap (pred_labels b.rows b.others pred) none

pub place_labels_are : {A : Type 0} (b : Buckets A) (k : Key) (n : ℕ) → number_of b.places (pred_of k) k.place ≡ Some n → labels_in b k ≡ index_at b.indexes.items n k.value
place_labels_are b k n there = elim (decided (is_own k)) [
  | inl o ↦ let z : 0 < k.place = place_over b.places (pred_of k) k.place n there in let w : k.place ≡ 0 = eqb-true k.place 0 (and_parts _ _ o).0 in absurd (omega arith)
  | inr o ↦
      ap (λ (z : Bool). if z then pred_labels b.rows b.others (pred_of k) (row_of (pred_of k)) else place_labels b.indexes.items k.value (number_of b.places (pred_of k) k.place)) o
      ∙ ap (place_labels b.indexes.items k.value) there
]

-- those of new buckets
pub none_labels : {A : Type 0} (b : Buckets A) → b.rows ≡ [] → ((k : IndexKey) → labels_of b.others k ≡ []) → b.indexes.items ≡ [] → (k : Key) → labels_in b k ≡ []
none_labels b rows others indexes k = elim (decided (is_own k)) [
  | inl o ↦ ap (λ (z : Bool). if z then pred_labels b.rows b.others (pred_of k) (row_of (pred_of k)) else place_labels b.indexes.items k.value (number_of b.places (pred_of k) k.place)) o ∙ by_row (row_of (pred_of k))
  | inr o ↦ ap (λ (z : Bool). if z then pred_labels b.rows b.others (pred_of k) (row_of (pred_of k)) else place_labels b.indexes.items k.value (number_of b.places (pred_of k) k.place)) o ∙ by_place (number_of b.places (pred_of k) k.place)
]
  where
    no_others : (few word : Bool) → (if few then (if word then labels_of b.others (index_key (other_key (pred_of k))) else []) else []) ≡ []
    no_others true true = others (index_key (other_key (pred_of k)))
    no_others true false = refl
    no_others false word = refl

    by_row : (r : Option ℕ) → pred_labels b.rows b.others (pred_of k) r ≡ []
    by_row None = no_others (nat_lt (pred_of k).arity 256) (is_word (other_key (pred_of k)))
    by_row (Some r) = ap (λ (z : List (List ℕ)). row_at z r) rows

    by_place : (o : Option ℕ) → place_labels b.indexes.items k.value o ≡ []
    by_place None = refl
    by_place (Some n) = ap (λ (z : List Indexed). index_at z n k.value) indexes

module _ {A : Type 0} (old new : Buckets A) (places : new.places ≡ old.places) (rows : new.rows ≡ old.rows) where
  labels_new : (k : Key) → (os : (p : Pred) → other_labels new.others p ≡ other_labels old.others p) → is_own k ≡ true → labels_in new k ≡ labels_in old k
  labels_new k os o =
      ap (λ (b : Bool). if b then pred_labels new.rows new.others (pred_of k) (row_of (pred_of k)) else place_labels new.indexes.items k.value (number_of new.places (pred_of k) k.place)) o
      ∙ by_row (row_of (pred_of k)) ∙ sym (ap (λ (b : Bool). if b then pred_labels old.rows old.others (pred_of k) (row_of (pred_of k)) else place_labels old.indexes.items k.value (number_of old.places (pred_of k) k.place)) o)
    where
      by_row : (r : Option ℕ) → pred_labels new.rows new.others (pred_of k) r ≡ pred_labels old.rows old.others (pred_of k) r
      by_row None = os (pred_of k)
      by_row (Some r) = ap (λ (z : List (List ℕ)). row_at z r) rows

  at_place_new : (k : Key) → is_own k ≡ false → labels_in new k ≡ place_labels new.indexes.items k.value (number_of old.places (pred_of k) k.place)
  at_place_new k o =
      ap (λ (b : Bool). if b then pred_labels new.rows new.others (pred_of k) (row_of (pred_of k)) else place_labels new.indexes.items k.value (number_of new.places (pred_of k) k.place)) o
      ∙ ap (λ (z : Places). place_labels new.indexes.items k.value (number_of z (pred_of k) k.place)) places

  at_place_old : (k : Key) → is_own k ≡ false → labels_in old k ≡ place_labels old.indexes.items k.value (number_of old.places (pred_of k) k.place)
  at_place_old k o =
      ap (λ (b : Bool). if b then pred_labels old.rows old.others (pred_of k) (row_of (pred_of k)) else place_labels old.indexes.items k.value (number_of old.places (pred_of k) k.place)) o

  by_number : ((n : ℕ) (v : KeyValue) → index_at new.indexes.items n v ≡ index_at old.indexes.items n v) → (v : KeyValue) (o : Option ℕ) → place_labels new.indexes.items v o ≡ place_labels old.indexes.items v o
  by_number same v None = refl
  by_number same v (Some n) = same n v

  -- nothing has changed
  pub labels_same : ((p : Pred) → other_labels new.others p ≡ other_labels old.others p) → ((n : ℕ) (v : KeyValue) → index_at new.indexes.items n v ≡ index_at old.indexes.items n v) → (k : Key) → labels_in new k ≡ labels_in old k
  labels_same os same k = elim (decided (is_own k)) [
    | inl o ↦ labels_new k os o
    | inr o ↦ at_place_new k o ∙ by_number same k.value (number_of old.places (pred_of k) k.place) ∙ sym (at_place_old k o)
  ]

  -- the labels of a predicate without a row have
  pub others_changed : (pred : Pred) (ms : List ℕ) → row_of pred ≡ None → ((p : Pred) → other_labels new.others p ≡ (if is_pred pred p then ms else other_labels old.others p)) → ((n : ℕ) (v : KeyValue) → index_at new.indexes.items n v ≡ index_at old.indexes.items n v)
      → (k : Key) → labels_in new k ≡ (if same_key (own_key pred) k then ms else labels_in old k)
  others_changed pred ms none set same k = elim (decided (is_own k)) [
    | inl o ↦
        ap (λ (b : Bool). if b then pred_labels new.rows new.others (pred_of k) (row_of (pred_of k)) else place_labels new.indexes.items k.value (number_of new.places (pred_of k) k.place)) o
        ∙ by_row o (row_of (pred_of k)) refl
        ∙ ap (λ (zs : List ℕ). if same_key (own_key pred) k then ms else zs) (sym (ap (λ (b : Bool). if b then pred_labels old.rows old.others (pred_of k) (row_of (pred_of k)) else place_labels old.indexes.items k.value (number_of old.places (pred_of k) k.place)) o))
    | inr o ↦ at_place_new k o ∙ by_number same k.value (number_of old.places (pred_of k) k.place) ∙ sym (at_place_old k o) ∙ sym (ap (λ (b : Bool). if b then ms else labels_in old k) (elsewhere o))
  ]
    where
      elsewhere : is_own k ≡ false → same_key (own_key pred) k ≡ false
      elsewhere o = elim (decided (same_key (own_key pred) k)) [
        | inl s ↦ absurd (false≢true (sym o ∙ ap is_own (sym (same_key_true (own_key pred) k s))))
        | inr s ↦ s
      ]

      own_one : is_own k ≡ true → is_pred pred (pred_of k) ≡ same_key (own_key pred) k
      own_one o =
          tells (is_pred pred (pred_of k)) (same_key (own_key pred) k) (λ h.
          let own = and_parts _ _ o in
          and_from _ _ (and_from _ _ h (eq-eqb _ _ (sym (eqb-true k.place 0 own.0)))) (ap (λ (v : KeyValue). same_value v k.value) (sym (same_value_true k.value _ own.1)) ∙ same_value_refl k.value)) (λ s. (and_parts _ _ (and_parts _ _ s).0).0)

      by_row : is_own k ≡ true → (r : Option ℕ) → row_of (pred_of k) ≡ r → pred_labels new.rows new.others (pred_of k) r ≡ (if same_key (own_key pred) k then ms else pred_labels old.rows old.others (pred_of k) r)
      by_row o None e = set (pred_of k) ∙ ap (λ (b : Bool). if b then ms else other_labels old.others (pred_of k)) (own_one o)
      by_row o (Some r) e = ap (λ (z : List (List ℕ)). row_at z r) rows ∙ elim (decided (same_key (own_key pred) k)) [
        | inl s ↦ let z : None ≡ Some r = sym none ∙ ap (λ (y : Key). row_of (pred_of y)) (same_key_true (own_key pred) k s) ∙ e in absurd (cc)
        | inr s ↦ sym (ap (λ (b : Bool). if b then ms else row_at old.rows r) s)
      ]

  -- those of a key of a chosen place have
  pub place_changed : (kk : Key) (n : ℕ) (ms : List ℕ) → number_of old.places (pred_of kk) kk.place ≡ Some n → ((p : Pred) → other_labels new.others p ≡ other_labels old.others p)
      → ((m : ℕ) (v : KeyValue) → index_at new.indexes.items m v ≡ (if nat_eq n m && same_value kk.value v then ms else index_at old.indexes.items m v)) → (k : Key) → labels_in new k ≡ (if same_key kk k then ms else labels_in old k)
  place_changed kk n ms there os set k = elim (decided (is_own k)) [
    | inl o ↦ labels_new k os o ∙ sym (ap (λ (b : Bool). if b then ms else labels_in old k) (elsewhere o))
    | inr o ↦ at_place_new k o ∙ by_place (number_of old.places (pred_of k) k.place) refl ∙ ap (λ (zs : List ℕ). if same_key kk k then ms else zs) (sym (at_place_old k o))
  ]
    where
      no_number : number_of old.places (pred_of k) k.place ≡ None → same_key kk k ≡ false
      no_number e = elim (decided (same_key kk k)) [
        | inl s ↦ let z : None ≡ Some n = sym e ∙ ap (λ (y : Key). number_of old.places (pred_of y) y.place) (sym (same_key_true kk k s)) ∙ there in absurd (cc)
        | inr s ↦ s
      ]

      elsewhere : is_own k ≡ true → same_key kk k ≡ false
      elsewhere o = no_number (ap (number_of old.places (pred_of k)) (eqb-true k.place 0 (and_parts _ _ o).0))

      by_place : (o : Option ℕ) → number_of old.places (pred_of k) k.place ≡ o → place_labels new.indexes.items k.value o ≡ (if same_key kk k then ms else place_labels old.indexes.items k.value o)
      by_place None e = sym (ap (λ (b : Bool). if b then ms else []) (no_number e))
      by_place (Some m) e =
          set m k.value ∙ ap (λ (b : Bool). if b then ms else index_at old.indexes.items m k.value) (tells (nat_eq n m && same_value kk.value k.value) (same_key kk k) (λ h.
          let both = and_parts _ _ h in
          and_from _ _ (number_one old.places (pred_of kk) (pred_of k) kk.place k.place m (there ∙ ap (λ (z : ℕ). Some z) (eqb-true n m both.0)) e) both.1) (λ s.
          let one : kk ≡ k = same_key_true kk k s in
          let z : Some n ≡ Some m = sym there ∙ ap (λ (y : Key). number_of old.places (pred_of y) y.place) one ∙ e in
          let w : n ≡ m = cc in
          and_from _ _ (eq-eqb n m w) (ap (λ (y : Key). same_value kk.value y.value) (sym one) ∙ same_value_refl kk.value)))

  -- the same where a change of the labels is known
  pub others_put : (F : List ℕ → List ℕ) (pred : Pred) → row_of pred ≡ None → ((p : Pred) → other_labels new.others p ≡ (if is_pred pred p then F (other_labels old.others pred) else other_labels old.others p)) → ((n : ℕ) (v : KeyValue) → index_at new.indexes.items n v ≡ index_at old.indexes.items n v)
      → (k : Key) → labels_in new k ≡ (if same_key (own_key pred) k then F (labels_in old (own_key pred)) else labels_in old k)
  others_put F pred none set same =
      others_changed pred (F (labels_in old (own_key pred))) none (λ p. set p ∙ ap (λ (zs : List ℕ). if is_pred pred p then F zs else other_labels old.others p) (sym (own_others old pred none))) same

  pub place_put : (F : List ℕ → List ℕ) (kk : Key) (n : ℕ) → number_of old.places (pred_of kk) kk.place ≡ Some n → ((p : Pred) → other_labels new.others p ≡ other_labels old.others p)
      → ((m : ℕ) (v : KeyValue) → index_at new.indexes.items m v ≡ (if nat_eq n m && same_value kk.value v then F (index_at old.indexes.items n kk.value) else index_at old.indexes.items m v)) → (k : Key) → labels_in new k ≡ (if same_key kk k then F (labels_in old kk) else labels_in old k)
  place_put F kk n there os set =
      place_changed kk n (F (labels_in old kk)) there os (λ m v. set m v ∙ ap (λ (zs : List ℕ). if nat_eq n m && same_value kk.value v then F zs else index_at old.indexes.items m v) (sym (place_labels_are old kk n there)))
