-- Entries in chains.
use Rattle.std.proofs.Common.{◌≡◌, ℕ, zero, suc, ◌+◌, ◌*◌, ◌-◌, ◌%◌, ◌^◌, ◌<◌, ◌≤◌, if◌then◌else◌, Bool, true, false, List, [], ◌∷◌, ◌++◌, Some, None, refl, sym, ap, subst, arith, ◌∙◌, length, take, get_or, slice_get, slice_set, slice_index, nat_eq, inl, inr, ◌⊎◌, length-set, option_map, min}
use Rattle.std.specs.List.{filter}
use Rattle.std.proofs.lemmas.Bool.{and_parts, and_from, eq-eqb, eqb-true, false≢true, cases_eq}
use Rattle.std.proofs.lemmas.Bool.Decides.{nat_tests}
use Rattle.std.proofs.lemmas.Nat.{pow-add, pow_pos, leading_length}
use native.Mathlib.Nat.{div-lt_iff_lt-mul, pow-le-pow_right}
use lib.Count.{count_leading_zeros}
use Rattle.std.proofs.lemmas.List.{take_all, take_more_set, length-take-le, get_or_read, take-append-le, map-append, get_or-set_same, get_or-set_other, length-map, length_push}
use Rattle.std.proofs.lemmas.Option.{slice_get-map, slice_get_read, slice_get_within}
use Rattle.chr_index.specs.declared.table.Kind.{Kind}
use Rattle.chr_index.specs.declared.table.Kind.TheVariants as kinds
use Rattle.chr_index.specs.declared.table.State.{State}
use Rattle.chr_index.specs.declared.table.State.TheVariants as states
use Rattle.chr_index.specs.declared.table.Key.{Key}
use Rattle.chr_index.specs.declared.table.Link.{Link}
use Rattle.chr_index.specs.declared.table.Link.TheVariants as links
use Rattle.chr_index.specs.declared.table.Entry.{Entry}
use Rattle.chr_index.specs.Chains.{Chained, same_kind, same_key, key_of, keys_of, linked, is_labelled, has_labels, last_with, place_of, entry_link, link_at, link_in, home, has_home, IsChained, KeysDiffer, IsTable, HasSameLinks}

-- ---- equality of keys

kind_true : (k l : Kind) → same_kind k l ≡ true → k ≡ l
kind_true kinds.Int kinds.Int h = refl
kind_true kinds.Int kinds.Sym h = absurd (false≢true h)
kind_true kinds.Int kinds.Digest h = absurd (false≢true h)
kind_true kinds.Sym kinds.Int h = absurd (false≢true h)
kind_true kinds.Sym kinds.Sym h = refl
kind_true kinds.Sym kinds.Digest h = absurd (false≢true h)
kind_true kinds.Digest kinds.Int h = absurd (false≢true h)
kind_true kinds.Digest kinds.Sym h = absurd (false≢true h)
kind_true kinds.Digest kinds.Digest h = refl

kind_refl : (k : Kind) → same_kind k k ≡ true
kind_refl kinds.Int = refl
kind_refl kinds.Sym = refl
kind_refl kinds.Digest = refl

abbrev key_from : ℕ → Kind → Key
key_from word kind = record { word = word; kind = kind }

pub same_key_true : (k l : Key) → same_key k l ≡ true → k ≡ l
same_key_true k l h =
    let both = and_parts _ _ h in
    ap (λ (z : ℕ). key_from z k.kind) (eqb-true k.word l.word both.0) ∙ ap (λ (z : Kind). key_from l.word z) (kind_true k.kind l.kind both.1)

pub same_key_refl : (k : Key) → same_key k k ≡ true
same_key_refl k = and_from _ _ (eq-eqb k.word k.word refl) (kind_refl k.kind)

-- a test is true or false
pub decided : (b : Bool) → (b ≡ true) ⊎ (b ≡ false)
decided true = inl refl
decided false = inr refl

-- what a test gives at another key
not_same : (k l : Key) → same_key k l ≡ false → same_key l k ≡ false
not_same k l f = elim (decided (same_key l k)) [
  | inl t ↦ absurd (false≢true (sym f ∙ ap (same_key k) (same_key_true l k t) ∙ same_key_refl k))
  | inr t ↦ t
]

-- ---- the last place

-- one step of its definition
last_step : (p : Key → Bool) (k : Key) (ks : List Key) (n : ℕ) (b : Bool) → last_with p ks ≡ n → p k ≡ b → last_with p (k ∷ ks) ≡ (if nat_eq n 0 then (if b then 1 else 0) else n + 1)
last_step p k ks n b h t = ap (λ (m : ℕ). if nat_eq m 0 then (if p k then 1 else 0) else m + 1) h ∙ ap (λ (c : Bool). if nat_eq n 0 then (if c then 1 else 0) else n + 1) t

pub last_push : (p : Key → Bool) (ks : List Key) (k : Key) → last_with p (ks ++ k ∷ []) ≡ (if p k then length ks + 1 else last_with p ks)
last_push p [] k = refl
last_push p (l ∷ ks) k = elim (decided (p k)) [
  | inl t ↦ last_step p l (ks ++ k ∷ []) (length ks + 1) (p l) (last_push p ks k ∙ ap (λ (b : Bool). if b then length ks + 1 else last_with p ks) t) refl ∙ some_more (length ks) (p l)
      ∙ sym (ap (λ (b : Bool). if b then length (l ∷ ks) + 1 else last_with p (l ∷ ks)) t)
  | inr f ↦ last_step p l (ks ++ k ∷ []) (last_with p ks) (p l) (last_push p ks k ∙ ap (λ (b : Bool). if b then length ks + 1 else last_with p ks) f) refl
      ∙ sym (ap (λ (b : Bool). if b then length (l ∷ ks) + 1 else last_with p (l ∷ ks)) f)
]
  where
    some_more : (n : ℕ) (b : Bool) → (if nat_eq (n + 1) 0 then (if b then 1 else 0) else (n + 1) + 1) ≡ suc n + 1
    some_more n b = grind (arith, nat_tests)

pub push_true : (p : Key → Bool) (ks : List Key) (k : Key) → p k ≡ true → last_with p (ks ++ k ∷ []) ≡ length ks + 1
push_true p ks k t = last_push p ks k ∙ ap (λ (b : Bool). if b then length ks + 1 else last_with p ks) t

pub push_false : (p : Key → Bool) (ks : List Key) (k : Key) → p k ≡ false → last_with p (ks ++ k ∷ []) ≡ last_with p ks
push_false p ks k f = last_push p ks k ∙ ap (λ (b : Bool). if b then length ks + 1 else last_with p ks) f

pub last_le : (p : Key → Bool) (ks : List Key) → last_with p ks ≤ length ks
last_le p [] = omega arith
last_le p (k ∷ ks) = bound (last_with p ks) (length ks) (p k) (last_le p ks)
  where
    bound : (n m : ℕ) (b : Bool) → n ≤ m → (if nat_eq n 0 then (if b then 1 else 0) else n + 1) ≤ suc m
    bound n m true h = grind (arith, nat_tests)
    bound n m false h = grind (arith, nat_tests)

-- the first keys, one more
taken_more : (ks : List Key) (i : ℕ) (k : Key) → slice_get ks i ≡ Some k → take (suc i) ks ≡ take i ks ++ k ∷ []
taken_more [] i k h = let z : None ≡ Some k = h in absurd (cc)
taken_more (l ∷ ks) zero k h = let z : l ≡ k = cc in ap (λ (y : Key). y ∷ []) z
taken_more (l ∷ ks) (suc i) k h = ap (λ (ys : List Key). l ∷ ys) (taken_more ks i k h)

taken_length : (ks : List Key) (i : ℕ) (k : Key) → slice_get ks i ≡ Some k → length (take i ks) ≡ i
taken_length [] i k h = let z : None ≡ Some k = h in absurd (cc)
taken_length (l ∷ ks) zero k h = refl
taken_length (l ∷ ks) (suc i) k h = ap suc (taken_length ks i k h)

pub more_true : (p : Key → Bool) (ks : List Key) (i : ℕ) (k : Key) → slice_get ks i ≡ Some k → p k ≡ true → last_with p (take (suc i) ks) ≡ suc i
more_true p ks i k h t = ap (last_with p) (taken_more ks i k h) ∙ push_true p (take i ks) k t ∙ omega (arith, taken_length ks i k h)

pub more_false : (p : Key → Bool) (ks : List Key) (i : ℕ) (k : Key) → slice_get ks i ≡ Some k → p k ≡ false → last_with p (take (suc i) ks) ≡ last_with p (take i ks)
more_false p ks i k h f = ap (last_with p) (taken_more ks i k h) ∙ push_false p (take i ks) k f

-- a fact of all first keys, from a fact of one more
by_front : (P : ℕ → Type 0) (ks : List Key) → P 0 → ((i : ℕ) (k : Key) → slice_get ks i ≡ Some k → P i → P (suc i)) → (n : ℕ) → n ≤ length ks → P n
by_front P ks none more zero u = none
by_front P ks none more (suc n) u = let got = got_within ks n (omega arith) in more n got.0 got.1 (by_front P ks none more n (omega arith))
  where
    got_within : (ks : List Key) (i : ℕ) → i < length ks → (k : Key) × (slice_get ks i ≡ Some k)
    got_within [] i w = absurd (omega arith)
    got_within (k ∷ ks) zero w = (k, refl)
    got_within (k ∷ ks) (suc i) w = got_within ks i (omega arith)

-- at the last place there is a key of which the test says true
pub last_holds : (p : Key → Bool) (ks : List Key) (i : ℕ) (k : Key) → last_with p ks ≡ suc i → slice_get ks i ≡ Some k → p k ≡ true
last_holds p [] i k h g = absurd (omega arith)
last_holds p (l ∷ ks) zero k h g = let z : l ≡ k = cc in subst (λ (y : Key). p y ≡ true) z (first (last_with p ks) (p l) h)
  where
    first : (n : ℕ) (b : Bool) → (if nat_eq n 0 then (if b then 1 else 0) else n + 1) ≡ 1 → b ≡ true
    first n true e = refl
    first n false e = grind (arith, nat_tests)
last_holds p (l ∷ ks) (suc i) k h g = last_holds p ks i k (rest (last_with p ks) (p l) h) g
  where
    rest : (n : ℕ) (b : Bool) → (if nat_eq n 0 then (if b then 1 else 0) else n + 1) ≡ suc (suc i) → n ≡ suc i
    rest n true e = grind (arith, nat_tests)
    rest n false e = grind (arith, nat_tests)

-- where one test says true another does, so the last place of the first is up to that of the second
pub last_front : (p q : Key → Bool) (ks : List Key) → ((k : Key) → p k ≡ true → q k ≡ true) → (n : ℕ) → n ≤ length ks → last_with p (take (last_with q (take n ks)) ks) ≡ last_with p (take n ks)
last_front p q ks h = by_front (λ (n : ℕ). last_with p (take (last_with q (take n ks)) ks) ≡ last_with p (take n ks)) ks refl
    (λ i k g before. elim (decided (q k)) [
      | inl t ↦ ap (λ (n : ℕ). last_with p (take n ks)) (more_true q ks i k g t)
      | inr f ↦ ap (λ (n : ℕ). last_with p (take n ks)) (more_false q ks i k g f) ∙ before ∙ sym (more_false p ks i k g (elim (decided (p k)) [ inl t ↦ absurd (false≢true (sym f ∙ h k t)) | inr t ↦ t ]))
    ])

pub last_whole : (p q : Key → Bool) (ks : List Key) → ((k : Key) → p k ≡ true → q k ≡ true) → last_with p (take (last_with q ks) ks) ≡ last_with p ks
last_whole p q ks h =
    let all : take (length ks) ks ≡ ks = take_all (length ks) ks (omega arith) in
    subst (λ (z : List Key). last_with p (take (last_with q z) ks) ≡ last_with p z) all (last_front p q ks h (length ks) (omega arith))

-- ---- keys and links by places

got_key : (es : List Entry) (i : ℕ) (e : Entry) → slice_get es i ≡ Some e → slice_get (keys_of es) i ≡ Some (key_of e)
got_key es i e h = slice_get-map key_of es i ∙ ap (option_map key_of) h

got_set : (es : List Entry) (i : ℕ) (e : Entry) → i < length es → slice_get (slice_set es i e) i ≡ Some e
got_set [] i e w = absurd (omega arith)
got_set (d ∷ es) zero e w = refl
got_set (d ∷ es) (suc i) e w = got_set es i e (omega arith)

got_set_other : (es : List Entry) (i j : ℕ) (e : Entry) → (j ≡ i → ⊥) → slice_get (slice_set es i e) j ≡ slice_get es j
got_set_other [] i j e n = refl
got_set_other (d ∷ es) zero zero e n = absurd (n refl)
got_set_other (d ∷ es) zero (suc j) e n = refl
got_set_other (d ∷ es) (suc i) zero e n = refl
got_set_other (d ∷ es) (suc i) (suc j) e n = got_set_other es i j e (λ z. n (ap suc z))

keys_set : (es : List Entry) (i : ℕ) (d e : Entry) → slice_get es i ≡ Some d → key_of e ≡ key_of d → keys_of (slice_set es i e) ≡ keys_of es
keys_set [] i d e g h = refl
keys_set (x ∷ es) zero d e g h = let z : x ≡ d = cc in ap (λ (k : Key). k ∷ keys_of es) (h ∙ ap key_of (sym z))
keys_set (x ∷ es) (suc i) d e g h = ap (λ (ks : List Key). key_of x ∷ ks) (keys_set es i d e g h)

link_got : (es : List Entry) (i : ℕ) (e : Entry) → slice_get es i ≡ Some e → link_at es (suc i) ≡ linked e.state e.link
link_got es i e h = ap entry_link h

link_set : (es : List Entry) (i : ℕ) (e : Entry) (place : ℕ) → (place ≡ suc i → ⊥) → link_at (slice_set es i e) place ≡ link_at es place
link_set es i e zero n = refl
link_set es i e (suc j) n = ap entry_link (got_set_other es i j e (λ z. n (ap suc z)))

got_push : (es : List Entry) (e : Entry) → slice_get (es ++ e ∷ []) (length es) ≡ Some e
got_push [] e = refl
got_push (d ∷ es) e = got_push es e

got_before : (es : List Entry) (e : Entry) (i : ℕ) → i < length es → slice_get (es ++ e ∷ []) i ≡ slice_get es i
got_before [] e i w = absurd (omega arith)
got_before (d ∷ es) e zero w = refl
got_before (d ∷ es) e (suc i) w = got_before es e i (omega arith)

link_push : (es : List Entry) (e : Entry) (place : ℕ) → place ≤ length es → link_at (es ++ e ∷ []) place ≡ link_at es place
link_push es e zero w = refl
link_push es e (suc i) w = ap entry_link (got_before es e i (omega arith))

-- a link is at a place that isn't 0
pub link_some : (es : List Entry) (place : ℕ) → (link_at es place ≡ links.Nowhere → ⊥) → 0 < place
link_some es zero h = absurd (h refl)
link_some es (suc i) h = omega arith

pub place_within : (t : Chained) (k : Key) → place_of t k ≤ length t.entries
place_within t k = omega (arith, last_le (same_key k) (keys_of t.entries), length-map t.entries key_of)

-- ---- chains

home_own : (shift h : ℕ) (k : Key) → h ≡ home shift k → has_home shift h k ≡ true
home_own shift h k e = eq-eqb (home shift k) h (sym e)

home_other : (shift h : ℕ) (k : Key) → (h ≡ home shift k → ⊥) → has_home shift h k ≡ false
home_other shift h k n = elim (decided (has_home shift h k)) [ inl t ↦ absurd (n (sym (eqb-true (home shift k) h t))) | inr t ↦ t ]

module _ (shift : ℕ) (chains : List ℕ) (es : List Entry) (e : Entry) (h n : ℕ) (is : h ≡ home shift (key_of e)) (last : n ≡ length es + 1) (within : h < length chains) (next : e.next ≡ slice_index chains h) (chained : IsChained shift chains es) where
  more_keys : keys_of (es ++ e ∷ []) ≡ keys_of es ++ key_of e ∷ []
  more_keys = map-append key_of es (e ∷ [])

  -- an entry comes after those that are chained
  pub chained_push : IsChained shift (slice_set chains h n) (es ++ e ∷ [])
  chained_push = record {
    begin = λ j. elim (cases_eq j h) [
      | inl q ↦
          ap (slice_index (slice_set chains h n)) q ∙ get_or-set_same chains h n 0 within ∙ last
          ∙ sym (ap (last_with (has_home shift j)) more_keys ∙ push_true (has_home shift j) (keys_of es) (key_of e) (home_own shift j (key_of e) (q ∙ is)) ∙ ap (λ (z : ℕ). z + 1) (length-map es key_of))
      | inr q ↦
          get_or-set_other chains h j n 0 q ∙ chained.begin j
          ∙ sym (ap (last_with (has_home shift j)) more_keys ∙ push_false (has_home shift j) (keys_of es) (key_of e) (home_other shift j (key_of e) (λ z. q (z ∙ sym is))))
    ];
    next = λ i d g. elim (cases_eq i (length es)) [
      | inl q ↦
          let own : Some d ≡ Some e = sym g ∙ ap (slice_get (es ++ e ∷ [])) q ∙ got_push es e in
          let z : d ≡ e = cc in
          let front : take i (keys_of (es ++ e ∷ [])) ≡ keys_of es = ap (take i) more_keys ∙ take-append-le i (keys_of es) (key_of e ∷ []) (omega (arith, length-map es key_of)) ∙ take_all i (keys_of es) (omega (arith, length-map es key_of)) in
          subst (λ (y : Entry). y.next ≡ last_with (has_home shift (home shift (key_of y))) (take i (keys_of (es ++ e ∷ [])))) (sym z)
          (next ∙ chained.begin h ∙ ap (λ (m : ℕ). last_with (has_home shift m) (keys_of es)) is ∙ ap (last_with (has_home shift (home shift (key_of e)))) (sym front))
      | inr q ↦
          let w : i < length es = omega (arith, slice_get_within (es ++ e ∷ []) i d g, length_push es e) in
          let front : take i (keys_of (es ++ e ∷ [])) ≡ take i (keys_of es) = ap (take i) more_keys ∙ take-append-le i (keys_of es) (key_of e ∷ []) (omega (arith, length-map es key_of)) in
          chained.next i d (sym (got_before es e i w) ∙ g) ∙ ap (last_with (has_home shift (home shift (key_of d)))) (sym front)
    ];
  }

-- ---- a table of these parts

abbrev pub chained : List ℕ → List Entry → ℕ → Chained
chained chains es shift = record { chains = chains; entries = es; shift = shift }

-- ---- a key is looked for along the chain of its home

-- its entry is at this place or further on in the chain, which goes through this place
pub record IsWalked (t : Chained) (k : Key) (place : ℕ) : Type 0 where
  pub within : place ≤ length t.entries
  pub chain : last_with (has_home t.shift (home t.shift k)) (take place (keys_of t.entries)) ≡ place
  pub rest : last_with (same_key k) (take place (keys_of t.entries)) ≡ place_of t k

same_home : (shift : ℕ) (k l : Key) → same_key k l ≡ true → has_home shift (home shift k) l ≡ true
same_home shift k l t = home_own shift (home shift k) l (ap (home shift) (same_key_true k l t))

pub walk_begins : (t : Chained) (k : Key) (place : ℕ) → IsTable t → place ≡ slice_index t.chains (home t.shift k) → IsWalked t k place
walk_begins t k place table is =
    let q = has_home t.shift (home t.shift k) in
    let ks = keys_of t.entries in
    let e : place ≡ last_with q ks = is ∙ table.chained.begin (home t.shift k) in
    record {
      within = omega (arith, e, last_le q ks, length-map t.entries key_of);
      chain = ap (λ (n : ℕ). last_with q (take n ks)) e ∙ last_whole q q ks (λ l h. h) ∙ sym e;
      rest = ap (λ (n : ℕ). last_with (same_key k) (take n ks)) e ∙ last_whole (same_key k) q ks (same_home t.shift k);
    }

module _ (chains : List ℕ) (es : List Entry) (shift place : ℕ) (e : Entry) (t : Chained) (view : chained chains es shift ≡ t) (k : Key) (walked : IsWalked t k place) (some : place ≡ 0 → ⊥) (read : e ≡ get_or es (place - 1) e) (invariant : IsTable (chained chains es shift)) where
  table : IsTable t
  table = subst IsTable view invariant

  got : slice_get t.entries (place - 1) ≡ Some e
  got =
      let n : length es ≡ length t.entries = ap (λ (t : Chained). length t.entries) view in
      sym (ap (λ (t : Chained). slice_get t.entries (place - 1)) view) ∙ slice_get_read es (length es) (place - 1) e refl (omega (arith, some, n, walked.within)) read

  abbrev ks : List Key
  ks = keys_of t.entries

  abbrev i : ℕ
  i = place - 1

  abbrev q : Key → Bool
  q = has_home t.shift (home t.shift k)

  one : place ≡ suc i
  one = omega (arith, some)

  own : slice_get ks i ≡ Some (key_of e)
  own = got_key t.entries i e got

  chain_here : last_with q (take (suc i) ks) ≡ suc i
  chain_here = subst (λ (n : ℕ). last_with q (take n ks) ≡ n) one walked.chain

  rest_here : last_with (same_key k) (take (suc i) ks) ≡ place_of t k
  rest_here = subst (λ (n : ℕ). last_with (same_key k) (take n ks) ≡ place_of t k) one walked.rest

  pub walk_found : same_key k (key_of e) ≡ true → place ≡ place_of t k
  walk_found h = one ∙ sym (more_true (same_key k) ks i (key_of e) own h) ∙ rest_here

  on_chain : q (key_of e) ≡ true
  on_chain = elim (decided (q (key_of e))) [
    | inl h ↦ h
    | inr h ↦ absurd (omega (arith, sym (more_false q ks i (key_of e) own h) ∙ chain_here, last_le q (take i ks), taken_length ks i (key_of e) own))
  ]

  next_is : e.next ≡ last_with q (take i ks)
  next_is = table.chained.next i e got ∙ ap (λ (h : ℕ). last_with (has_home t.shift h) (take i ks)) (eqb-true (home t.shift (key_of e)) (home t.shift k) on_chain)

  pub walk_falls : e.next < place
  walk_falls = omega (arith, one, next_is, last_le q (take i ks), taken_length ks i (key_of e) own)

  pub walk_goes_on : same_key k (key_of e) ≡ false → IsWalked t k e.next
  walk_goes_on h =
      let w : i ≤ length ks = omega (arith, one, walked.within, length-map t.entries key_of) in
      record {
        within = omega (arith, walk_falls, walked.within);
        chain = ap (λ (m : ℕ). last_with q (take m ks)) next_is ∙ last_front q q ks (λ l s. s) i w ∙ sym next_is;
        rest = ap (λ (m : ℕ). last_with (same_key k) (take m ks)) next_is ∙ last_front (same_key k) q ks (same_home t.shift k) i w ∙ sym (more_false (same_key k) ks i (key_of e) own h) ∙ rest_here;
      }

-- ---- an entry is written

module _ (chains : List ℕ) (es : List Entry) (shift i : ℕ) (d e : Entry) (got : slice_get es i ≡ Some d) (end : suc i ≡ place_of (chained chains es shift) (key_of e)) (next : e.next ≡ d.next) (table : IsTable (chained chains es shift)) where
  abbrev was : Chained
  was = chained chains es shift

  abbrev now : Chained
  now = chained chains (slice_set es i e) shift

  own_key : key_of e ≡ key_of d
  own_key = same_key_true (key_of e) (key_of d) (last_holds (same_key (key_of e)) (keys_of es) i (key_of d) (sym end) (got_key es i d got))

  keys_kept : keys_of (slice_set es i e) ≡ keys_of es
  keys_kept = keys_set es i d e got own_key

  pub links_written : (k : Key) → link_in now k ≡ (if same_key (key_of e) k then linked e.state e.link else link_in was k)
  links_written k =
      ap (λ (ks : List Key). link_at (slice_set es i e) (last_with (same_key k) ks)) keys_kept
      ∙ elim (decided (same_key (key_of e) k)) [
        | inl t ↦
            ap (λ (z : Key). link_at (slice_set es i e) (place_of was z)) (sym (same_key_true (key_of e) k t)) ∙ ap (link_at (slice_set es i e)) (sym end) ∙ link_got (slice_set es i e) i e (got_set es i e (slice_get_within es i d got))
            ∙ sym (ap (λ (b : Bool). if b then linked e.state e.link else link_in was k) t)
        | inr f ↦
            link_set es i e (place_of was k) (λ p. false≢true (sym (not_same (key_of e) k f) ∙ ap (same_key k) own_key ∙ last_holds (same_key k) (keys_of es) i (key_of d) p (got_key es i d got)))
            ∙ sym (ap (λ (b : Bool). if b then linked e.state e.link else link_in was k) f)
      ]

  pub table_written : IsTable now
  table_written = record {
    shift = table.shift;
    places = omega (arith, table.places, length-set es i e);
    homes = table.homes;
    chained = record {
      begin = λ h. table.chained.begin h ∙ ap (last_with (has_home shift h)) (sym keys_kept);
      next = λ j x g. elim (cases_eq j i) [
        | inl q ↦
            let own : Some x ≡ Some e = sym g ∙ ap (slice_get (slice_set es i e)) q ∙ got_set es i e (slice_get_within es i d got) in
            let z : x ≡ e = cc in
            ap (λ (y : Entry). y.next) z ∙ next ∙ table.chained.next i d got ∙ ap (λ (y : Key). last_with (has_home shift (home shift y)) (take i (keys_of es))) (sym own_key ∙ sym (ap key_of z))
            ∙ ap (λ (m : ℕ). last_with (has_home shift (home shift (key_of x))) (take m (keys_of es))) (sym q) ∙ ap (λ (ks : List Key). last_with (has_home shift (home shift (key_of x))) (take j ks)) (sym keys_kept)
        | inr q ↦ table.chained.next j x (sym (got_set_other es i j e q) ∙ g) ∙ ap (λ (ks : List Key). last_with (has_home shift (home shift (key_of x))) (take j ks)) (sym keys_kept)
      ];
    };
    differ = subst KeysDiffer (sym keys_kept) table.differ;
  }

-- the same for a key with a link, in a table as it is seen
module _ (chains : List ℕ) (es : List Entry) (shift place : ℕ) (d e : Entry) (seen : Chained) (view : chained chains es shift ≡ seen) (key : Key) (link : Link) (is : key_of e ≡ key) (has : linked e.state e.link ≡ link) (next : e.next ≡ d.next)
    (end : place ≡ place_of seen key) (some : 0 < place) (read : d ≡ get_or es (place - 1) d) (table : IsTable (chained chains es shift)) where
  pub place_there : place - 1 < length es
  place_there = let n : length es ≡ length seen.entries = ap (λ (t : Chained). length t.entries) view in omega (arith, n, end, some, place_within seen key)

  there : slice_get es (place - 1) ≡ Some d
  there = slice_get_read es (length es) (place - 1) d refl place_there read

  seen_end : suc (place - 1) ≡ place_of (chained chains es shift) (key_of e)
  seen_end = let one : suc (place - 1) ≡ place = omega (arith, some) in one ∙ end ∙ ap (λ (t : Chained). place_of t key) (sym view) ∙ ap (place_of (chained chains es shift)) (sym is)

  pub links_rewritten : (k : Key) → link_in (chained chains (slice_set es (place - 1) e) shift) k ≡ (if same_key key k then link else link_in seen k)
  links_rewritten k =
      links_written chains es shift (place - 1) d e there seen_end next table k ∙ ap (λ (z : Key). if same_key z k then linked e.state e.link else link_in (chained chains es shift) k) is
      ∙ ap (λ (l : Link). if same_key key k then l else link_in (chained chains es shift) k) has ∙ ap (λ (t : Chained). if same_key key k then link else link_in t k) view

  pub table_rewritten : IsTable (chained chains (slice_set es (place - 1) e) shift)
  table_rewritten = table_written chains es shift (place - 1) d e there seen_end next table

-- ---- an entry comes after the others

none_more : (n : ℕ) (b : Bool) → (if nat_eq n 0 then (if b then 1 else 0) else n + 1) ≡ 0 → (n ≡ 0) × (b ≡ false)
none_more zero true h = absurd (omega arith)
none_more zero false h = (refl, refl)
none_more (suc n) b h = absurd (grind (arith, nat_tests))

differ_push : (ks : List Key) (k : Key) → KeysDiffer ks → last_with (same_key k) ks ≡ 0 → KeysDiffer (ks ++ k ∷ [])
differ_push [] k d h = (refl, tt)
differ_push (l ∷ ks) k d h =
    let none = none_more (last_with (same_key k) ks) (same_key k l) h in
    (push_false (same_key l) ks k (not_same k l none.1) ∙ d.0, differ_push ks k d.1 none.0)

module _ (chains : List ℕ) (es : List Entry) (shift h n : ℕ) (e : Entry) (is : h ≡ home shift (key_of e)) (last : n ≡ length es + 1) (fits : n < 2 ^ 32) (next : e.next ≡ slice_index chains h) (some : 0 < length chains) (absent : place_of (chained chains es shift) (key_of e) ≡ 0) (table : IsTable (chained chains es shift)) where
  abbrev before : Chained
  before = chained chains es shift

  abbrev after : Chained
  after = chained (slice_set chains h n) (es ++ e ∷ []) shift

  keys_more : keys_of (es ++ e ∷ []) ≡ keys_of es ++ key_of e ∷ []
  keys_more = map-append key_of es (e ∷ [])

  pub links_entered : (k : Key) → link_in after k ≡ (if same_key (key_of e) k then linked e.state e.link else link_in before k)
  links_entered k =
      ap (λ (ks : List Key). link_at (es ++ e ∷ []) (last_with (same_key k) ks)) keys_more
      ∙ elim (decided (same_key (key_of e) k)) [
        | inl t ↦
            let own : same_key k (key_of e) ≡ true = ap (same_key k) (same_key_true (key_of e) k t) ∙ same_key_refl k in
            let place : last_with (same_key k) (keys_of es ++ key_of e ∷ []) ≡ suc (length es) = push_true (same_key k) (keys_of es) (key_of e) own ∙ omega (arith, length-map es key_of) in
            ap (link_at (es ++ e ∷ [])) place ∙ link_got (es ++ e ∷ []) (length es) e (got_push es e) ∙ sym (ap (λ (b : Bool). if b then linked e.state e.link else link_in before k) t)
        | inr f ↦
            ap (link_at (es ++ e ∷ [])) (push_false (same_key k) (keys_of es) (key_of e) (not_same (key_of e) k f)) ∙ link_push es e (place_of before k) (place_within before k) ∙ sym (ap (λ (b : Bool). if b then linked e.state e.link else link_in before k) f)
      ]

  pub table_entered : IsTable after
  table_entered = record {
    shift = table.shift;
    places = omega (arith, length_push es e, last, fits);
    homes = λ w k. omega (arith, length-set chains h n, table.homes some k);
    chained = chained_push shift chains es e h n is last (omega (arith, is, table.homes some (key_of e))) next table.chained;
    differ = subst KeysDiffer (sym keys_more) (differ_push (keys_of es) (key_of e) table.differ absent);
  }

-- the same for a key with a link, in a table as it is seen
module _ (chains : List ℕ) (es new : List Entry) (shift h n first : ℕ) (e : Entry) (seen : Chained) (view : chained chains es shift ≡ seen) (key : Key) (link : Link) (is : key_of e ≡ key) (has : linked e.state e.link ≡ link) (next : e.next ≡ first) (read : first ≡ get_or chains h first)
    (more : new ≡ es ++ e ∷ []) (at : h ≡ home shift key) (last : n ≡ length new) (fits : length es < 4294967295) (absent : place_of seen key ≡ 0) (some : 0 < length seen.chains) (table : IsTable (chained chains es shift)) where
  some_chains : 0 < length chains
  some_chains = let w : length chains ≡ length seen.chains = ap (λ (t : Chained). length t.chains) view in omega (arith, some, w)

  own_home : h ≡ home shift (key_of e)
  own_home = at ∙ ap (home shift) (sym is)

  own_place : n ≡ length es + 1
  own_place = last ∙ ap (λ (z : List Entry). length z) more ∙ length_push es e

  own_next : e.next ≡ slice_index chains h
  own_next = next ∙ get_or_read chains h first (omega (arith, at, table.homes some_chains key)) read 0

  own_absent : place_of (chained chains es shift) (key_of e) ≡ 0
  own_absent = ap (place_of (chained chains es shift)) is ∙ ap (λ (t : Chained). place_of t key) view ∙ absent

  pub links_added : (k : Key) → link_in (chained (slice_set chains h n) new shift) k ≡ (if same_key key k then link else link_in seen k)
  links_added k =
      ap (λ (z : List Entry). link_in (chained (slice_set chains h n) z shift) k) more ∙ links_entered chains es shift h n e own_home own_place (omega (arith, fits, own_place)) own_next some_chains own_absent table k
      ∙ ap (λ (z : Key). if same_key z k then linked e.state e.link else link_in (chained chains es shift) k) is
      ∙ ap (λ (l : Link). if same_key key k then l else link_in (chained chains es shift) k) has ∙ ap (λ (t : Chained). if same_key key k then link else link_in t k) view

  pub table_added : IsTable (chained (slice_set chains h n) new shift)
  table_added = subst (λ (z : List Entry). IsTable (chained (slice_set chains h n) z shift)) (sym more) (table_entered chains es shift h n e own_home own_place (omega (arith, fits, own_place)) own_next some_chains own_absent table)

-- ---- keys without labels are taken out

bare_link : (s : State) (n : ℕ) → is_labelled s ≡ false → linked s n ≡ links.Nowhere
bare_link states.Bare n h = refl
bare_link states.Alone n h = absurd (false≢true (sym h))
bare_link states.Bucket n h = absurd (false≢true (sym h))

kept_one : (e : Entry) (es : List Entry) → has_labels e ≡ true → filter has_labels (e ∷ es) ≡ e ∷ filter has_labels es
kept_one e es t = ap (λ (b : Bool). if b then e ∷ filter has_labels es else filter has_labels es) t

left_out : (e : Entry) (es : List Entry) → has_labels e ≡ false → filter has_labels (e ∷ es) ≡ filter has_labels es
left_out e es t = ap (λ (b : Bool). if b then e ∷ filter has_labels es else filter has_labels es) t

absent_kept : (p : Key → Bool) (es : List Entry) → last_with p (keys_of es) ≡ 0 → last_with p (keys_of (filter has_labels es)) ≡ 0
absent_kept p [] h = refl
absent_kept p (e ∷ es) h =
    let none = none_more (last_with p (keys_of es)) (p (key_of e)) h in
    let rest = absent_kept p es none.0 in
    elim (decided (has_labels e)) [
      | inl t ↦ ap (λ (z : List Entry). last_with p (keys_of z)) (kept_one e es t) ∙ last_step p (key_of e) (keys_of (filter has_labels es)) 0 false rest none.1
      | inr f ↦ ap (λ (z : List Entry). last_with p (keys_of z)) (left_out e es f) ∙ rest
    ]

differ_kept : (es : List Entry) → KeysDiffer (keys_of es) → KeysDiffer (keys_of (filter has_labels es))
differ_kept [] d = tt
differ_kept (e ∷ es) d = elim (decided (has_labels e)) [
  | inl t ↦ subst (λ (z : List Entry). KeysDiffer (keys_of z)) (sym (kept_one e es t)) (absent_kept (same_key (key_of e)) es d.0, differ_kept es d.1)
  | inr f ↦ subst (λ (z : List Entry). KeysDiffer (keys_of z)) (sym (left_out e es f)) (differ_kept es d.1)
]

abbrev found : Key → List Entry → Link
found k es = link_at es (last_with (same_key k) (keys_of es))

found_first : (k : Key) (e : Entry) (es : List Entry) → same_key k (key_of e) ≡ true → last_with (same_key k) (keys_of es) ≡ 0 → found k (e ∷ es) ≡ linked e.state e.link
found_first k e es t none = ap (link_at (e ∷ es)) (last_step (same_key k) (key_of e) (keys_of es) 0 true none t)

found_later : (k : Key) (e : Entry) (es : List Entry) → same_key k (key_of e) ≡ false → found k (e ∷ es) ≡ found k es
found_later k e es f = by_place (last_with (same_key k) (keys_of es)) refl
  where
    some_more : (n : ℕ) → (if nat_eq (suc n) 0 then (if false then 1 else 0) else suc n + 1) ≡ suc (suc n)
    some_more n = grind (arith, nat_tests)

    by_place : (n : ℕ) → last_with (same_key k) (keys_of es) ≡ n → found k (e ∷ es) ≡ found k es
    by_place zero h = ap (link_at (e ∷ es)) (last_step (same_key k) (key_of e) (keys_of es) 0 false h f) ∙ sym (ap (link_at es) h)
    by_place (suc n) h =
        let more : last_with (same_key k) (key_of e ∷ keys_of es) ≡ suc (suc n) = last_step (same_key k) (key_of e) (keys_of es) (suc n) false h f ∙ some_more n in
        ap (link_at (e ∷ es)) more ∙ sym (ap (link_at es) h)

found_kept : (k : Key) (es : List Entry) → KeysDiffer (keys_of es) → found k (filter has_labels es) ≡ found k es
found_kept k [] d = refl
found_kept k (e ∷ es) d = elim (decided (has_labels e)) [
  | inl u ↦ ap (found k) (kept_one e es u) ∙ elim (decided (same_key k (key_of e))) [
    | inl t ↦ found_first k e (filter has_labels es) t (absent_kept (same_key k) es (absent t)) ∙ sym (found_first k e es t (absent t))
    | inr f ↦ found_later k e (filter has_labels es) f ∙ found_kept k es d.1 ∙ sym (found_later k e es f)
  ]
  | inr u ↦ ap (found k) (left_out e es u) ∙ found_kept k es d.1 ∙ elim (decided (same_key k (key_of e))) [
    | inl t ↦ ap (link_at es) (absent t) ∙ sym (found_first k e es t (absent t) ∙ bare_link e.state e.link u)
    | inr f ↦ sym (found_later k e es f)
  ]
]
  where
    absent : same_key k (key_of e) ≡ true → last_with (same_key k) (keys_of es) ≡ 0
    absent t = ap (λ (z : Key). last_with (same_key z) (keys_of es)) (same_key_true k (key_of e) t) ∙ d.0

-- ---- the table is made anew

-- the first entries are chained, and all have the links that they had
pub record IsChainedUpTo (shift i : ℕ) (chains : List ℕ) (old new : List Entry) : Type 0 where
  pub chained : IsChained shift chains (take i new)
  pub same : HasSameLinks old new

pub chained_more : (shift i h : ℕ) (chains : List ℕ) (old es : List Entry) (d e : Entry) → slice_get es i ≡ Some d → key_of e ≡ key_of d → linked e.state e.link ≡ linked d.state d.link → e.next ≡ slice_index chains h → h ≡ home shift (key_of d) → h < length chains
    → IsChainedUpTo shift i chains old es → IsChainedUpTo shift (i + 1) (slice_set chains h (i + 1)) old (slice_set es i e)
chained_more shift i h chains old es d e got key link next is within c =
    let w : i < length es = slice_get_within es i d got in
    record {
      chained =
          subst (IsChained shift (slice_set chains h (i + 1))) (sym (take_more_set es i e w))
          (chained_push shift chains (take i es) e h (i + 1) (is ∙ ap (home shift) (sym key)) (omega (arith, length-take-le i es (omega arith))) within next c.chained);
      same = record {
        keys = keys_set es i d e got key ∙ c.same.keys;
        links = λ place. elim (cases_eq place (suc i)) [
          | inl q ↦ ap (link_at (slice_set es i e)) q ∙ link_got (slice_set es i e) i e (got_set es i e w) ∙ link ∙ sym (link_got es i d got) ∙ ap (link_at es) (sym q) ∙ c.same.links place
          | inr q ↦ link_set es i e place q ∙ c.same.links place
        ];
      };
    }

module _ (old : Chained) (chains : List ℕ) (shift : ℕ) (kept new : List Entry) (is : kept ≡ filter has_labels old.entries) (same : HasSameLinks kept new) (table : IsTable old) where
  pub absent_renewed : (k : Key) → place_of old k ≡ 0 → place_of (chained chains new shift) k ≡ 0
  absent_renewed k h = ap (last_with (same_key k)) (same.keys ∙ ap keys_of is) ∙ absent_kept (same_key k) old.entries h

  pub links_renewed : (k : Key) → link_in (chained chains new shift) k ≡ link_in old k
  links_renewed k =
      same.links (place_of (chained chains new shift) k) ∙ ap (λ (ks : List Key). link_at kept (last_with (same_key k) ks)) same.keys ∙ ap (found k) is ∙ found_kept k old.entries table.differ

  pub table_renewed : shift < 64 → length new < 2 ^ 32 → ((k : Key) → home shift k < length chains) → IsChained shift chains new → IsTable (chained chains new shift)
  table_renewed low few homes chain = record {
    shift = low;
    places = few;
    homes = λ w. homes;
    chained = chain;
    differ = subst KeysDiffer (sym (same.keys ∙ ap keys_of is)) (differ_kept old.entries table.differ);
  }

-- ---- how many homes there are

pub home_below : (shift : ℕ) (k : Key) → shift < 64 → home shift k < 2 ^ (64 - shift)
home_below shift k low =
    let both : (64 - shift) + shift ≡ 64 = omega arith in
    let whole : 2 ^ (64 - shift) * 2 ^ shift ≡ 2 ^ 64 = sym (pow-add 2 (64 - shift) shift) ∙ ap (λ (n : ℕ). 2 ^ n) both in
    let below : (k.word * 11400714819323198485) % 2 ^ 64 < 2 ^ 64 = omega arith in
    (div-lt_iff_lt-mul (pow_pos shift)).1 (subst (λ (n : ℕ). (k.word * 11400714819323198485) % 2 ^ 64 < n) (sym whole) below)

pub shift_some : (a : ℕ) → a < 2 ^ 63 → 0 < min (count_leading_zeros 64 a) 61
shift_some a few =
    let l = leading_length 64 a (omega arith) in
    elim (cases_eq (count_leading_zeros 64 a) 0) [
      | inl q ↦ let whole : l.0 ≡ 64 = omega (arith, q, l.1) in let e : 2 ^ 64 ≤ 2 * a + 1 = subst (λ (m : ℕ). 2 ^ m ≤ 2 * a + 1) whole l.3 in absurd (omega arith)
      | inr q ↦ omega (arith, q)
    ]

pub shift_room : (used : ℕ) → used < 2 ^ 32 → 2 * used ≤ 2 ^ (64 - min (count_leading_zeros 64 (2 * used - 1)) 61)
shift_room used few =
    let l = leading_length 64 (2 * used - 1) (omega arith) in
    let more : 2 ^ l.0 ≤ 2 ^ (64 - min (count_leading_zeros 64 (2 * used - 1)) 61) = pow-le-pow_right (omega arith) (omega (arith, l.1)) in
    omega (arith, more, l.2)
