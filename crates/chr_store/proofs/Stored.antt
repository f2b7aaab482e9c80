-- A store with the labels of its keys.
use Rattle.std.proofs.Common.{◌≡◌, ℕ, zero, suc, ◌+◌, ◌<◌, ◌≤◌, ◌==◌, ◌&&◌, if◌then◌else◌, Bool, true, false, List, [], ◌∷◌, ◌++◌, Option, Some, None, refl, sym, ap, subst, arith, length, ◌∙◌, slice_get, nat_lt, inl, inr, true-eqb, option_map}
use Rattle.std.specs.List.{AllByRecursion}
use Rattle.std.proofs.lemmas.Bool.{eq-eqb, eqb-true, lt-ltb, cases_eq, false_from_ne_true, false≢true, and_parts, and_from}
use Rattle.std.proofs.lemmas.Option.{slice_get_past}
use Rattle.std.proofs.lemmas.Bool.Decides.{nat_tests}
use Rattle.chr_value.specs.Atoms.{Value, Int, Sym, Comp, Atom}
use Rattle.chr_value.specs.Stores.{Store, atom_at, drop_label}
use Rattle.chr_value.specs.declared.atom.Pred.{Pred}
use Rattle.chr_value.specs.declared.value.ValueRef.{ValueRef}
use Rattle.chr_store.specs.KeyParts.{Key, KeyValue}
use Rattle.chr_store.specs.declared.buckets.Buckets.{Buckets}
use Rattle.chr_store.specs.Labels.{LabelledStore, GivenAtoms, Rising, GivenBefore}
use Rattle.chr_store.specs.Keys.{arg_at, HasPred, HasKey, Query, key_of, IsLeastMatch}
use Rattle.chr_store.specs.Indexed.{IsIndexed, LabelHas, IsLeastWith}
use Rattle.chr_index.specs.Buckets.{drop_number, IsIn, IsLeastBetween}
use Rattle.chr_store.specs.Index.{own_key, Places, chosen, is_constant, key_value, key_value_at, fits, pred_of, IsKeyAt, is_value, same_key}
use Rattle.chr_store.specs.KeyLabels.{labels_in, labels_with, reached, IsChanged, IsIndexOf}
use Rattle.chr_store.proofs.Table.{drop_absent}
use Rattle.chr_index.proofs.Slots.{drop_absent as number_absent, pushed_back, all_map}
use Rattle.chr_store.proofs.Walks.{above}
use Rattle.chr_store.proofs.KeyLaws.{same_key_true, same_key_refl, same_value_true, same_value_refl, same_parts}

-- ---- an atom's own keys

-- what the parts of an atom's key are
pub record Fitting (k : Key) (a : Atom ℕ) : Type 0 where
  pub name : k.name.number ≡ a.name
  pub arity : k.arity ≡ length a.args
  pub value : key_value_at a k.place ≡ Some k.value

is_value_some : (v : KeyValue) (o : Option KeyValue) → is_value v o ≡ true → o ≡ Some v
is_value_some v None h = absurd (cc)
is_value_some v (Some w) h = ap (λ z. Some z) (sym (same_value_true v w h))

pub fitting : (k : Key) (a : Atom ℕ) → fits k a ≡ true → Fitting k a
fitting k a h =
    let p = and_parts _ _ h in
    let q = and_parts _ _ p.0 in
    record { name = eqb-true _ _ q.0; arity = eqb-true _ _ q.1; value = is_value_some k.value (key_value_at a k.place) p.1 }

pub fits_from : (k : Key) (a : Atom ℕ) → Fitting k a → fits k a ≡ true
fits_from k a h = and_from _ _ (and_from _ _ (eq-eqb _ _ h.name) (eq-eqb _ _ h.arity)) (subst (λ (o : Option KeyValue). is_value k.value o ≡ true) (sym h.value) (same_value_refl k.value))

-- an atom's key at a place is each key that fits it there
pub own_fits : (a : Atom ℕ) (n : ℕ) (kk k : Key) → IsKeyAt a n kk → same_key kk k ≡ true → (fits k a ≡ true) × (k.place ≡ n)
own_fits a n kk k h t =
    let e : kk ≡ k = same_key_true kk k t in
    (subst (λ (z : Key). fits z a ≡ true) e (fits_from kk a (record { name = h.name; arity = h.arity; value = subst (λ (z : ℕ). key_value_at a z ≡ Some kk.value) (sym h.place) h.value })), subst (λ (z : Key). z.place ≡ n) e h.place)

pub some_one : {X : Type 0} (x y : X) → Some x ≡ Some y → x ≡ y
some_one x y h = cc

pub fits_own : (a : Atom ℕ) (n : ℕ) (kk k : Key) → IsKeyAt a n kk → fits k a ≡ true → k.place ≡ n → same_key kk k ≡ true
fits_own a n kk k h f e =
    let p : Fitting k a = fitting k a f in
    subst (λ (z : Key). same_key kk z ≡ true) (same_parts kk k (h.name ∙ sym p.name) (h.arity ∙ sym p.arity) (h.place ∙ sym e) (some_one _ _ (sym h.value ∙ ap (key_value_at a) (sym e) ∙ p.value))) (same_key_refl kk)

-- ---- step by step

and_lt_more : (P : Bool) (p n : ℕ) → (p ≡ n → P ≡ true → ⊥) → (P && nat_lt p (n + 1)) ≡ (P && nat_lt p n)
and_lt_more P p n h = grind (arith, nat_tests, h)

and_lt_not : (P : Bool) (p n : ℕ) → n ≤ p → (P && nat_lt p n) ≡ false
and_lt_not P p n h = grind (arith, nat_tests)

pub unreached : (places : Places) (a : Atom ℕ) (n : ℕ) (k : Key) → n ≤ k.place → reached places a n k ≡ false
unreached places a n k h = and_lt_not _ k.place n h

pub touched_none : {A : Type 0} (f : List ℕ → List ℕ) (places : Places) (a : Atom ℕ) (m : Buckets A) → IsChanged f places a 0 m m
touched_none f places a m = λ k. sym (ap (λ (b : Bool). if b then f (labels_in m k) else labels_in m k) (unreached places a 0 k (omega arith)))

pub own_unreached : {A : Type 0} (f : List ℕ → List ℕ) (places : Places) (a : Atom ℕ) (n : ℕ) (kk : Key) (old cur : Buckets A) → IsKeyAt a n kk → IsChanged f places a n old cur → labels_in cur kk ≡ labels_in old kk
own_unreached f places a n kk old cur h t = t kk ∙ ap (λ (b : Bool). if b then f (labels_in old kk) else labels_in old kk) (unreached places a n kk (let e : kk.place ≡ n = h.place in omega arith))

abbrev pred_from : ℕ → ℕ → Pred
pred_from n m = record { name = record { number = n }; arity = m }

-- the pred of a key that fits is the atom's
pub pred_one : (p q : Pred) → p.name.number ≡ q.name.number → p.arity ≡ q.arity → p ≡ q
pred_one p q e f = ap (λ (z : ℕ). pred_from z p.arity) e ∙ ap (λ (z : ℕ). pred_from q.name.number z) f

pub touched_same : {A : Type 0} (f : List ℕ → List ℕ) (places : Places) (a : Atom ℕ) (n : ℕ) (pred : Pred) (old cur : Buckets A) → pred.name.number ≡ a.name → pred.arity ≡ length a.args → chosen places pred n ≡ false → IsChanged f places a n old cur → IsChanged f places a (n + 1) old cur
touched_same f places a n pred old cur name arity not t = λ k. t k ∙ ap (λ (b : Bool). if b then f (labels_in old k) else labels_in old k) (sym (and_lt_more (chosen places (pred_of k) k.place && fits k a) k.place n (λ e both.
    let p = and_parts _ _ both in
    let g : Fitting k a = fitting k a p.1 in
    false≢true (sym not ∙ (subst (λ (z : Pred). chosen places z n ≡ true) (pred_one (pred_of k) pred (g.name ∙ sym name) (g.arity ∙ sym arity)) (subst (λ (z : ℕ). chosen places (pred_of k) z ≡ true) e p.0))))))

pub touched_more : {A : Type 0} (f : List ℕ → List ℕ) (places : Places) (a : Atom ℕ) (n : ℕ) (pred : Pred) (kk : Key) (old cur new : Buckets A) → pred.name.number ≡ a.name → pred.arity ≡ length a.args → chosen places pred n ≡ true → IsKeyAt a n kk → IsChanged f places a n old cur → ((k : Key) → labels_in new k ≡ (if same_key kk k then f (labels_in cur kk) else labels_in cur k)) → IsChanged f places a (n + 1) old new
touched_more f places a n pred kk old cur new name arity there h t s = λ k. s k ∙ elim (same_key kk k) as (λ b. (same_key kk k ≡ b) → (if b then f (labels_in cur kk) else labels_in cur k) ≡ (if reached places a (n + 1) k then f (labels_in old k) else labels_in old k)) [
  | true ↦ λ u.
      let own = own_fits a n kk k h u in
      let one : pred_of k ≡ pred = pred_one (pred_of k) pred ((fitting k a own.0).name ∙ sym name) ((fitting k a own.0).arity ∙ sym arity) in
      let lt : nat_lt k.place (n + 1) ≡ true = lt-ltb k.place (n + 1) (let w : k.place ≡ n = own.1 in omega arith) in
      let r : reached places a (n + 1) k ≡ true = and_from _ _ (and_from _ _ (subst (λ (z : ℕ). chosen places (pred_of k) z ≡ true) (sym own.1) (subst (λ (z : Pred). chosen places z n ≡ true) (sym one) there)) own.0) lt in
      ap f (own_unreached f places a n kk old cur h t ∙ ap (labels_in old) (same_key_true kk k u)) ∙ sym (ap (λ (b : Bool). if b then f (labels_in old k) else labels_in old k) r)
  | false ↦ λ u. t k ∙ ap (λ (b : Bool). if b then f (labels_in old k) else labels_in old k) (sym (and_lt_more (chosen places (pred_of k) k.place && fits k a) k.place n (λ e both.
      false≢true (sym u ∙ fits_own a n kk k h (and_parts _ _ both).1 e))))
] refl

-- labels that stayed are changed under no place
pub touched_stayed : {A : Type 0} (f : List ℕ → List ℕ) (places : Places) (a : Atom ℕ) (old new : Buckets A) → ((k : Key) → labels_in new k ≡ labels_in old k) → IsChanged f places a 0 old new
touched_stayed f places a old new s = λ k. s k ∙ touched_none f places a old k

-- the key of the predicate alone was changed
pub touched_own : {A : Type 0} (f : List ℕ → List ℕ) (places : Places) (a : Atom ℕ) (pred : Pred) (kk : Key) (old new : Buckets A) → pred.name.number ≡ a.name → pred.arity ≡ length a.args → kk ≡ own_key pred → ((k : Key) → labels_in new k ≡ (if same_key kk k then f (labels_in old kk) else labels_in old k)) → IsChanged f places a 1 old new
touched_own f places a pred kk old new name arity own s =
    touched_more f places a 0 pred kk old old new name arity refl (subst (IsKeyAt a 0) (sym own) (record { name = name; arity = arity; place = refl; value = refl })) (touched_none f places a old) s

-- where no place of the predicate is chosen, that is all
pub touched_rest : {A : Type 0} (f : List ℕ → List ℕ) (places : Places) (a : Atom ℕ) (pred : Pred) (old new : Buckets A) → pred.name.number ≡ a.name → pred.arity ≡ length a.args → ((n : ℕ) → 0 < n → chosen places pred n ≡ false) → (n m : ℕ) → m ≡ n + 1 → IsChanged f places a 1 old new → IsChanged f places a m old new
touched_rest f places a pred old new name arity none zero m e h = subst (λ (z : ℕ). IsChanged f places a z old new) (omega arith) h
touched_rest f places a pred old new name arity none (suc n) m e h =
    subst (λ (z : ℕ). IsChanged f places a z old new) (omega arith)
    (touched_same f places a (suc n) pred old new name arity (none (suc n) (omega arith)) (touched_rest f places a pred old new name arity none n (suc n) (omega arith) h))

-- ---- the key at a place

-- what stands for an argument
pub key_value_of : (a : Atom ℕ) (n : ℕ) (v : Value ℕ) → 0 < n → arg_at a n ≡ Some v → key_value_at a n ≡ Some (key_value v)
key_value_of a zero v u h = absurd (omega arith)
key_value_of a (suc i) v u h = ap (option_map key_value) h

-- ---- the labels of a key, one atom more or fewer

pub labels_all : (P : ℕ → Type 0) (k : Key) (es : Store) → AllByRecursion (λ e. P e.0) es → AllByRecursion P (labels_with k es)
labels_all P k [] h = tt
labels_all P k (e ∷ es) h = elim (fits k e.1) as (λ b. AllByRecursion P (if b then e.0 ∷ labels_with k es else labels_with k es)) [ true ↦ (h.0, labels_all P k es h.1) | false ↦ labels_all P k es h.1 ]

-- a change of the labels that leaves the first one, which may have the key
first_kept : (F : List ℕ → List ℕ) (f g : Bool) (m : ℕ) (new old : List ℕ) → F (m ∷ old) ≡ m ∷ F old → new ≡ (if g then F old else old)
    → (if f then m ∷ new else new) ≡ (if g then F (if f then m ∷ old else old) else (if f then m ∷ old else old))
first_kept F f g m new old same e = grind arith

pub labels_push : (k : Key) (n : ℕ) (a : Atom ℕ) (es : Store) → labels_with k (es ++ (n, a) ∷ []) ≡ (if fits k a then labels_with k es ++ n ∷ [] else labels_with k es)
labels_push k n a [] = refl
labels_push k n a (e ∷ es) = first_kept (λ ms. ms ++ n ∷ []) (fits k e.1) (fits k a) e.0 (labels_with k (es ++ (n, a) ∷ [])) (labels_with k es) refl (labels_push k n a es)

apart_above : (l : ℕ) (ms : List ℕ) → AllByRecursion (λ m. l < m) ms → AllByRecursion (λ m. m ≡ l → ⊥) ms
apart_above l ms h = all_map (λ m. l < m) (λ m. m ≡ l → ⊥) ms (λ m u e. absurd (omega arith)) h

first_goes : (l m : ℕ) (f g : Bool) (ms : List ℕ) → (m == l) ≡ true → f ≡ g → drop_number l ms ≡ ms → ms ≡ (if g then drop_number l (if f then m ∷ ms else ms) else (if f then m ∷ ms else ms))
first_goes l m f g ms here fit none = grind (arith, nat_tests)

pub labels_drop : (k : Key) (l : ℕ) (a : Atom ℕ) (es : Store) → Rising es → atom_at es l ≡ Some a → labels_with k (drop_label l es) ≡ (if fits k a then drop_number l (labels_with k es) else labels_with k es)
labels_drop k l a [] r h = let z : None ≡ Some a = h in absurd (cc)
labels_drop k l a (e ∷ es) r h = elim (cases_eq e.0 l) [
  | inl same ↦
      let here : (e.0 == l) ≡ true = eq-eqb e.0 l same in
      let up = subst (λ z. AllByRecursion (λ f. z < f.0) es) same r.0 in
      rw (here, drop_absent l es up) (first_goes l e.0 (fits k e.1) (fits k a) (labels_with k es) here (ap (fits k) (some_one e.1 a (rw here at h))) (number_absent l (labels_with k es) (apart_above l (labels_with k es) (labels_all (λ m. l < m) k es up))))
  | inr differ ↦
      let other : (e.0 == l) ≡ false = false_from_ne_true (e.0 == l) (λ t. differ (eqb-true e.0 l t)) in
      rw other (first_kept (drop_number l) (fits k e.1) (fits k a) e.0 (labels_with k (drop_label l es)) (labels_with k es) (rw other) (labels_drop k l a es r.1 (rw other at h)))
]

-- ---- the index of no atoms

pub kept_none : {A : Type 0} (places : Places) (m : Buckets A) → ((k : Key) → labels_in m k ≡ []) → IsIndexOf places [] m
kept_none places m empty = λ k. elim (chosen places (pred_of k) k.place) as (λ b. labels_in m k ≡ (if b then [] else [])) [ true ↦ empty k | false ↦ empty k ]

pub indexed_none : {A : Type 0} (limit : ℕ) (places : Places) (m : Buckets A) → limit ≤ 4294967295 → ((k : Key) → labels_in m k ≡ []) → IsIndexed (record { entries = []; next = 1; limit = limit }) places m
indexed_none limit places m fits empty = record {
  labelled = record { rising = tt; given = tt; first = omega arith; within = omega arith; limit = fits };
  index = kept_none places m empty;
}

-- the places that the labels are kept with
pub indexed_by : {A : Type 0} (s : LabelledStore) (places own : Places) (m : Buckets A) → own ≡ places → IsIndexed s places m → IsIndexed s own m
indexed_by s places own m e h = subst (λ (z : Places). IsIndexed s z m) (sym e) h

pub changed_by : {A : Type 0} (f : List ℕ → List ℕ) (places own : Places) (a : Atom ℕ) (n : ℕ) (old new : Buckets A) → own ≡ places → IsChanged f own a n old new → IsChanged f places a n old new
changed_by f places own a n old new e h = subst (λ (z : Places). IsChanged f z a n old new) e h

-- ---- the index, one atom more or fewer

place_within : (a : Atom ℕ) (n : ℕ) (v : KeyValue) → key_value_at a n ≡ Some v → n < length a.args + 1
place_within a zero v h = omega arith
place_within a (suc i) v h = grind (arith, slice_get_past)

-- with all places reached
all_reached : (places : Places) (a : Atom ℕ) (k : Key) → reached places a (length a.args + 1) k ≡ (chosen places (pred_of k) k.place && fits k a)
all_reached places a k = grind (arith, nat_tests, place_within a k.place k.value, fitting k a)

-- what every place reaches, some place reaches only where all do
part_reached : (places : Places) (a : Atom ℕ) (n : ℕ) (k : Key) → (chosen places (pred_of k) k.place && fits k a) ≡ false → reached places a n k ≡ false
part_reached places a n k h = ap (λ (b : Bool). b && nat_lt k.place n) h

pub kept_push : {A : Type 0} (places : Places) (n : ℕ) (a : Atom ℕ) (es : Store) (old new : Buckets A) → IsIndexOf places es old → IsChanged (λ ms. ms ++ n ∷ []) places a (length a.args + 1) old new → IsIndexOf places (es ++ (n, a) ∷ []) new
kept_push places n a es old new h t = λ k. t k ∙ ap (λ (b : Bool). if b then labels_in old k ++ n ∷ [] else labels_in old k) (all_reached places a k) ∙ subst (λ (z : List ℕ). (if chosen places (pred_of k) k.place && fits k a then z ++ n ∷ [] else z) ≡ (if chosen places (pred_of k) k.place then labels_with k (es ++ (n, a) ∷ []) else [])) (sym (h k)) (elim (chosen places (pred_of k) k.place) as (λ b. (if b && fits k a then (if b then labels_with k es else []) ++ n ∷ [] else (if b then labels_with k es else [])) ≡ (if b then labels_with k (es ++ (n, a) ∷ []) else [])) [
  | true ↦ sym (labels_push k n a es)
  | false ↦ refl
])

pub kept_drop : {A : Type 0} (places : Places) (l : ℕ) (a : Atom ℕ) (es : Store) (old new : Buckets A) → Rising es → atom_at es l ≡ Some a → IsIndexOf places es old → IsChanged (drop_number l) places a (length a.args + 1) old new → IsIndexOf places (drop_label l es) new
kept_drop places l a es old new r at h t = λ k. t k ∙ ap (λ (b : Bool). if b then drop_number l (labels_in old k) else labels_in old k) (all_reached places a k) ∙ subst (λ (z : List ℕ). (if chosen places (pred_of k) k.place && fits k a then drop_number l z else z) ≡ (if chosen places (pred_of k) k.place then labels_with k (drop_label l es) else [])) (sym (h k)) (elim (chosen places (pred_of k) k.place) as (λ b. (if b && fits k a then drop_number l (if b then labels_with k es else []) else (if b then labels_with k es else [])) ≡ (if b then labels_with k (drop_label l es) else [])) [
  | true ↦ sym (labels_drop k l a es r at)
  | false ↦ refl
])

pub kept_under : {A : Type 0} (places : Places) (n : ℕ) (es : Store) (m : Buckets A) → AllByRecursion (λ e. e.0 < n) es → IsIndexOf places es m → (k : Key) → AllByRecursion (λ l. l < n) (labels_in m k)
kept_under places n es m g h k = subst (AllByRecursion (λ l. l < n)) (sym (h k)) (elim (chosen places (pred_of k) k.place) as (λ b. AllByRecursion (λ l. l < n) (if b then labels_with k es else [])) [ true ↦ labels_all (λ l. l < n) k es g | false ↦ tt ])

pub kept_below : {A : Type 0} (places : Places) (n : ℕ) (es : Store) (m : Buckets A) → GivenBefore n es → IsIndexOf places es m → (k : Key) → AllByRecursion (λ l. l < n) (labels_in m k)
kept_below places n es m g = kept_under places n es m (all_map (λ e. (1 ≤ e.0) × (e.0 < n)) (λ e. e.0 < n) es (λ e h. h.1) g)

undone : (l : ℕ) (whole part : Bool) (old mid new : List ℕ) → (whole ≡ false → part ≡ false) → AllByRecursion (λ m. m < l) old → mid ≡ (if part then old ++ l ∷ [] else old) → new ≡ (if whole then drop_number l mid else mid) → new ≡ old
undone l whole part old mid new less below t s = grind (arith, less, pushed_back l old below, number_absent l old (all_map (λ m. m < l) (λ m. m ≡ l → ⊥) old (λ m u e. absurd (omega arith)) below))

-- what was entered, in part or whole, and left again is as before
pub kept_undone : {A : Type 0} (places : Places) (n l : ℕ) (a : Atom ℕ) (es : Store) (old mid new : Buckets A) → GivenBefore l es → IsIndexOf places es old → IsChanged (λ ms. ms ++ l ∷ []) places a n old mid → IsChanged (drop_number l) places a (length a.args + 1) mid new → IsIndexOf places es new
kept_undone places n l a es old mid new g h t s = λ k.
    let left = s k ∙ ap (λ (b : Bool). if b then drop_number l (labels_in mid k) else labels_in mid k) (all_reached places a k) in
    undone l (chosen places (pred_of k) k.place && fits k a) (reached places a n k) (labels_in old k) (labels_in mid k) (labels_in new k) (part_reached places a n k) (kept_below places l es old g h k) (t k) left ∙ h k

-- ---- the least of a key

pub record Under (k : Key) (es : Store) (l : ℕ) : Type 0 where
  pub atom : Atom ℕ
  pub there : atom_at es l ≡ Some atom
  pub fit : fits k atom ≡ true

pub under_is_in : (k : Key) (es : Store) (l : ℕ) → Rising es → IsIn l (labels_with k es) → Under k es l
under_is_in k [] l r h = absurd h
under_is_in k (e ∷ es) l r h =
    elim (fits k e.1) as (λ b. (fits k e.1 ≡ b) → IsIn l (if b then e.0 ∷ labels_with k es else labels_with k es) → Under k (e ∷ es) l) [
      | true ↦ λ t st. elim st [
        | inl same ↦ record { atom = e.1; there = ap (λ (b : Bool). if b then Some e.1 else atom_at es l) (eq-eqb e.0 l same); fit = t }
        | inr more ↦ later (under_is_in k es l r.1 more)
      ]
      | false ↦ λ t st. later (under_is_in k es l r.1 st)
    ] refl h
  where
    later : Under k es l → Under k (e ∷ es) l
    later u = record { atom = u.atom; there = (let lt : e.0 < l = above e.0 es l u.atom r.0 u.there in grind (arith, nat_tests, u.there)); fit = u.fit }

pub is_in_under : (k : Key) (es : Store) (l : ℕ) (a : Atom ℕ) → atom_at es l ≡ Some a → fits k a ≡ true → IsIn l (labels_with k es)
is_in_under k [] l a h f = let z : None ≡ Some a = h in absurd (cc)
is_in_under k (e ∷ es) l a h f =
    elim (e.0 == l) as (λ b. (e.0 == l ≡ b) → (if b then Some e.1 else atom_at es l) ≡ Some a → IsIn l (if fits k e.1 then e.0 ∷ labels_with k es else labels_with k es)) [
      | true ↦ λ t at. let atom : e.1 ≡ a = cc in subst (λ (b : Bool). IsIn l (if b then e.0 ∷ labels_with k es else labels_with k es)) (sym (ap (fits k) atom ∙ f)) (inl (true-eqb e.0 l (sym t)))
      | false ↦ λ t at. elim (fits k e.1) as (λ b. IsIn l (if b then e.0 ∷ labels_with k es else labels_with k es)) [ true ↦ inr (is_in_under k es l a at f) | false ↦ is_in_under k es l a at f ]
    ] refl h

-- a key says what a query asks
pub record Asks (k : Key) (q : Query) : Type 0 where
  pub met : (a : Atom ℕ) → fits k a ≡ true → HasPred q.pred a × HasKey q.key a
  pub fit : (a : Atom ℕ) → HasPred q.pred a → HasKey q.key a → fits k a ≡ true

pub least_meets : (es : Store) (q : Query) (k : Key) (found : Option ℕ) → Rising es → Asks k q → IsLeastBetween (labels_with k es) q.after q.below found → IsLeastMatch es q found
least_meets es q k None r asks h = λ l m. h l (is_in_under k es l m.atom m.there (asks.fit m.atom m.pred m.key)) m.over m.under
least_meets es q k (Some l) r asks h =
    let u = under_is_in k es l r h.0 in
    let met = asks.met u.atom u.fit in
    (record { atom = u.atom; there = u.there; pred = met.0; key = met.1; over = h.1; under = h.2 }, λ n m. h.3 n (is_in_under k es n m.atom m.there (asks.fit m.atom m.pred m.key)) m.over)

-- ---- what is asked of a predicate alone, or of a value at a place

abbrev pub asked : Pred → Option (ℕ × Value ℕ) → ℕ → ℕ → Query
asked pred key after below = record { pred = pred; key = key; after = after; below = below }

-- the key of a value at a place
abbrev pub at_place : Pred → ℕ → Value ℕ → Key
at_place pred n v = record { name = pred.name; arity = pred.arity; place = n; value = key_value v }

pred_met : (k : Key) (a : Atom ℕ) → fits k a ≡ true → HasPred (pred_of k) a
pred_met k a f = let g : Fitting k a = fitting k a f in (sym g.name, sym g.arity)

own_fit : (pred : Pred) (a : Atom ℕ) → HasPred pred a → fits (own_key pred) a ≡ true
own_fit pred a h = fits_from (own_key pred) a (record { name = sym h.0; arity = sym h.1; value = refl })

at_fit : (pred : Pred) (n : ℕ) (v : Value ℕ) (a : Atom ℕ) → 0 < n → HasPred pred a → arg_at a n ≡ Some v → fits (at_place pred n v) a ≡ true
at_fit pred n v a u h at = fits_from (at_place pred n v) a (record { name = sym h.0; arity = sym h.1; value = key_value_of a n v u at })

pub asks_own : (pred : Pred) (after below : ℕ) → Asks (own_key pred) (asked pred None after below)
asks_own pred after below = record { met = λ a f. (pred_met (own_key pred) a f, tt); fit = λ a h k. own_fit pred a h }

-- a number or a symbol is the only value with its keys
constant_one : (u v : Value ℕ) → is_constant v ≡ true → key_value u ≡ key_value v → u ≡ v
constant_one (Int y) (Int z) c h = cc
constant_one (Int y) (Sym s) c h = cc
constant_one (Sym r) (Int z) c h = cc
constant_one (Sym r) (Sym s) c h = cc
constant_one (Comp r us) (Int z) c h = cc
constant_one (Comp r us) (Sym s) c h = cc
constant_one u (Comp s vs) c h = cc

constant_at : (a : Atom ℕ) (n : ℕ) (v : Value ℕ) → 0 < n → is_constant v ≡ true → key_value_at a n ≡ Some (key_value v) → arg_at a n ≡ Some v
constant_at a zero v u c h = absurd (omega arith)
constant_at a (suc i) v u c h = by_arg (slice_get a.args i) h
  where
    by_arg : (o : Option (Value ℕ)) → option_map key_value o ≡ Some (key_value v) → o ≡ Some v
    by_arg None h = cc
    by_arg (Some w) h = ap (λ (z : Value ℕ). Some z) (constant_one w v c (some_one _ _ h))

pub asks_at : (pred : Pred) (n : ℕ) (v : Value ℕ) (after below : ℕ) → 0 < n → is_constant v ≡ true → Asks (at_place pred n v) (asked pred (Some (n, v)) after below)
asks_at pred n v after below u c = record {
  met = λ a f. (pred_met (at_place pred n v) a f, constant_at a n v u c (fitting (at_place pred n v) a f).value);
  fit = λ a h k. at_fit pred n v a u h k;
}

-- what contracts see of atoms with a limit
abbrev pub seen : GivenAtoms → ℕ → LabelledStore
seen atoms limit = record { entries = atoms.entries; next = atoms.next; limit = limit }

-- what a query asks of a store that its caller sees, under what it gave for a key
pub same_asked : {A : Type 0} (s t : LabelledStore) (pred : Pred) (key given : Option (ℕ × ValueRef A)) (after below : ℕ) (found : Option ℕ) → s ≡ t → given ≡ key → IsLeastMatch s.entries (asked pred (key_of key) after below) found → IsLeastMatch t.entries (asked pred (key_of given) after below) found
same_asked {A} s t pred key given after below found e f h =
    subst (λ (z : LabelledStore). IsLeastMatch z.entries (asked pred (key_of given) after below) found) e
    (subst (λ (z : Option (ℕ × ValueRef A)). IsLeastMatch s.entries (asked pred (key_of z) after below) found) (sym f) h)

-- the labels of a key of the predicate, among which those of each atom with the value are
least_with : (es : Store) (k : Key) (n : ℕ) (v : Value ℕ) (after below : ℕ) (found : Option ℕ) → Rising es → ((a : Atom ℕ) → HasPred (pred_of k) a → arg_at a n ≡ Some v → fits k a ≡ true) → IsLeastWith es n v (labels_with k es) after below found → IsLeastMatch es (asked (pred_of k) (Some (n, v)) after below) found
least_with es k n v after below None r fit h = λ l m. h l (is_in_under k es l m.atom m.there (fit m.atom m.pred m.key)) m.over m.under (record { atom = m.atom; there = m.there; has = m.key })
least_with es k n v after below (Some l) r fit h =
    let u = under_is_in k es l r h.there in
    let same : u.atom ≡ h.has.atom = some_one _ _ (sym u.there ∙ h.has.there) in (
      record { atom = h.has.atom; there = h.has.there; pred = subst (HasPred (pred_of k)) same (pred_met k u.atom u.fit); key = h.has.has; over = h.over; under = h.under },
      λ i m. h.least i (is_in_under k es i m.atom m.there (fit m.atom m.pred m.key)) m.over (record { atom = m.atom; there = m.there; has = m.key }),
    )

module _ {A : Type 0} (s : LabelledStore) (places : Places) (b : Buckets A) (h : IsIndexed s places b) (pred : Pred) (after below : ℕ) (found : Option ℕ) where
  -- the labels of a key of a chosen place
  key_labels : (k kk : Key) → k ≡ kk → chosen places (pred_of kk) kk.place ≡ true → labels_in b k ≡ labels_with kk s.entries
  key_labels k kk is there = ap (labels_in b) is ∙ h.index kk ∙ ap (λ (z : Bool). if z then labels_with kk s.entries else []) there

  -- a look-up of the predicate alone
  pub found_own : (k : Key) → k ≡ own_key pred → IsLeastBetween (labels_in b k) after below found → IsLeastMatch s.entries (asked pred None after below) found
  found_own k own least =
      least_meets s.entries (asked pred None after below) (own_key pred) found h.labelled.rising (asks_own pred after below)
      (subst (λ (ms : List ℕ). IsLeastBetween ms after below found) (key_labels k (own_key pred) own refl) least)

  -- a look-up of a number or a symbol at a chosen place
  pub found_at : (k : Key) (n : ℕ) (v : Value ℕ) → k ≡ at_place pred n v → 0 < n → chosen places pred n ≡ true → is_constant v ≡ true → IsLeastBetween (labels_in b k) after below found → IsLeastMatch s.entries (asked pred (Some (n, v)) after below) found
  found_at k n v is over there constant least =
      least_meets s.entries (asked pred (Some (n, v)) after below) (at_place pred n v) found h.labelled.rising (asks_at pred n v after below over constant)
      (subst (λ (ms : List ℕ). IsLeastBetween ms after below found) (key_labels k (at_place pred n v) is there) least)

  -- a search for any value among the labels of the predicate, and among those of its digest
  pub found_own_with : (k : Key) (n : ℕ) (v : Value ℕ) → k ≡ own_key pred → IsLeastWith s.entries n v (labels_in b k) after below found → IsLeastMatch s.entries (asked pred (Some (n, v)) after below) found
  found_own_with k n v own least =
      least_with s.entries (own_key pred) n v after below found h.labelled.rising (λ a p at. own_fit pred a p)
      (subst (λ (ms : List ℕ). IsLeastWith s.entries n v ms after below found) (key_labels k (own_key pred) own refl) least)

  pub found_at_with : (k : Key) (n : ℕ) (v : Value ℕ) → k ≡ at_place pred n v → 0 < n → chosen places pred n ≡ true → IsLeastWith s.entries n v (labels_in b k) after below found → IsLeastMatch s.entries (asked pred (Some (n, v)) after below) found
  found_at_with k n v is over there least =
      least_with s.entries (at_place pred n v) n v after below found h.labelled.rising (λ a p at. at_fit pred n v a over p at)
      (subst (λ (ms : List ℕ). IsLeastWith s.entries n v ms after below found) (key_labels k (at_place pred n v) is there) least)

-- ---- a search among labels, for one whose atom has a value at a place

-- the search has left what lies up to a label
pub record IsPassed (es : Store) (n : ℕ) (v : Value ℕ) (ms : List ℕ) (after from : ℕ) : Type 0 where
  pub over : after ≤ from
  pub left : (m : ℕ) → IsIn m ms → after < m → LabelHas es m n v → from < m

pub passed_more : (es : Store) (n : ℕ) (v : Value ℕ) (ms : List ℕ) (after below from l : ℕ) → IsPassed es n v ms after from → IsLeastBetween ms from below (Some l) → (LabelHas es l n v → ⊥) → IsPassed es n v ms after l
passed_more es n v ms after below from l p least lacks = record {
  over = omega (arith, p.over, least.1);
  left = λ m i o h. elim (cases_eq l m) [
    | inl e ↦ absurd (lacks (subst (λ (z : ℕ). LabelHas es z n v) (sym e) h))
    | inr d ↦ omega (arith, least.3 m i (p.left m i o h))
  ];
}

pub passed_found : (es : Store) (n : ℕ) (v : Value ℕ) (ms : List ℕ) (after below from l : ℕ) → IsPassed es n v ms after from → IsLeastBetween ms from below (Some l) → LabelHas es l n v → IsLeastWith es n v ms after below (Some l)
passed_found es n v ms after below from l p least has = record {
  there = least.0;
  over = omega (arith, p.over, least.1);
  under = least.2;
  has = has;
  least = λ m i o h. least.3 m i (p.left m i o h);
}

pub passed_all : (es : Store) (n : ℕ) (v : Value ℕ) (ms : List ℕ) (after below from : ℕ) → IsPassed es n v ms after from → IsLeastBetween ms from below None → IsLeastWith es n v ms after below None
passed_all es n v ms after below from p none = λ m i o u h. none m i (p.left m i o h) u

-- ---- a copy

pub before_all : (l : ℕ) (a : Atom ℕ) (es rest : Store) → Rising (es ++ (l, a) ∷ rest) → AllByRecursion (λ e. e.0 < l) es
before_all l a [] rest h = tt
before_all l a (e ∷ es) rest h = (first e.0 es h.0, before_all l a es rest h.1)
  where
    first : (k : ℕ) (es : Store) → AllByRecursion (λ f. k < f.0) (es ++ (l, a) ∷ rest) → k < l
    first k [] h = h.0
    first k (f ∷ es) h = first k es h.1

-- a label among those given
pub given_at : (n l : ℕ) (a : Atom ℕ) (es rest : Store) → GivenBefore n (es ++ (l, a) ∷ rest) → l < n
given_at n l a [] rest h = h.0.1
given_at n l a (e ∷ es) rest h = given_at n l a es rest h.1
