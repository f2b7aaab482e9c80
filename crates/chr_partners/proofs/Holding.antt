-- Atoms in slots, by label.
use Rattle.std.proofs.Common.{◌≡◌, ◌≢◌, ◌↔◌, ◌⊎◌, inl, inr, ℕ, zero, suc, ◌+◌, ◌<◌, ◌≤◌, ◌++◌, ◌==◌, if◌then◌else◌, Bool, true, false, List, [], ◌∷◌, Option, Some, None, refl, sym, ap, ap₂, subst, ◌∙◌, arith, length, slice_get, slice_set, Bor, MatchOption, IsSome}
use Rattle.std.specs.Option.{option_flatten, option_copied, option_map}
use Rattle.std.specs.Slice.{IsItemAt}
use Rattle.std.proofs.lemmas.Bool.{eq-eqb, eqb-true, false≢true, cases_eq}
use Rattle.std.proofs.lemmas.Bool.Decides.{nat_tests}
use Rattle.std.proofs.lemmas.List.{length-append}
use Rattle.std.proofs.lemmas.Option.{slice_get_past, slice_get_read}
use Rattle.slab.specs.Slab.{Slab, get, Updates, with_value}
use Rattle.slab.proofs.SlabLemmas.{Updates-with_value}
use Rattle.chr_value.specs.Atoms.{Atom}
use Rattle.chr_value.specs.Stores.{Store, atom_at, drop_label}
use Rattle.chr_partners.specs.declared.atoms.Held.{Held}
use Rattle.chr_partners.specs.Partners.{ListedStore, IsIn, drop_number, with_atom, without_label}
use Rattle.chr_partners.specs.Atoms.{owned, held_from, held_at, atoms_from, listed_from, seen_in, IsSlotOf, IsHeld}

-- what a `get` of a slice shows
pub looked_at : {X : Type 0} (xs : List X) (i : ℕ) (r : Option (Bor X)) → IsItemAt xs i r → slice_get xs i ≡ option_copied r
looked_at xs i None h = slice_get_past xs i h.3
looked_at xs i (Some x) h = slice_get_read xs (length xs) i x.now refl h.3.0 h.1

pub match_none : {X : Type 0} (r : Option X) (P : Type 0) (Q : X → Type 0) → r ≡ None → P → MatchOption r P Q
match_none r P Q e h = subst (λ (o : Option _). MatchOption o P Q) (sym e) h

one_some : {X : Type 0} (x y : X) → Some x ≡ Some y → x ≡ y
one_some x y e = cc

-- ---- lists without what isn't in them

pub drop_absent : (l : ℕ) (es : Store) → atom_at es l ≡ None → drop_label l es ≡ es
drop_absent l [] h = refl
drop_absent l (e ∷ es) h = elim (e.0 == l) as (λ b. (if b then Some e.1 else atom_at es l) ≡ None → (if b then drop_label l es else e ∷ drop_label l es) ≡ e ∷ es) [ true ↦ λ k. absurd (cc) | false ↦ λ k. ap (λ (z : Store). e ∷ z) (drop_absent l es k) ] h

pub drop_missing : (n : ℕ) (ms : List ℕ) → (IsIn n ms → ⊥) → drop_number n ms ≡ ms
drop_missing n [] h = refl
drop_missing n (m ∷ ms) h = grind (arith, nat_tests, drop_missing n ms (λ i. h (inr i)), (let d : m ≢ n = λ e. h (inl e) in d))

pub in_dropped : (n m : ℕ) (ms : List ℕ) → IsIn m (drop_number n ms) → (m ≢ n) × IsIn m ms
in_dropped n m [] h = elim h [ ]
in_dropped n m (k ∷ ms) h = elim (decided (k == n)) [
  | inl t ↦ let r = in_dropped n m ms (subst (λ (b : Bool). IsIn m (if b then drop_number n ms else k ∷ drop_number n ms)) t h) in (r.0, inr r.1)
  | inr f ↦ elim (subst (λ (b : Bool). IsIn m (if b then drop_number n ms else k ∷ drop_number n ms)) f h) [
    | inl e ↦ ((λ s. false≢true (sym f ∙ eq-eqb k n (e ∙ s))), inl e)
    | inr i ↦ let r = in_dropped n m ms i in (r.0, inr r.1)
  ]
]
  where
    decided : (b : Bool) → (b ≡ true) ⊎ (b ≡ false)
    decided true = inl refl
    decided false = inr refl

abbrev seen : Store → List ℕ → ℕ → ListedStore
seen store listed next = record { store = store; listed = listed; next = next }

all_three : (store store2 : Store) (listed listed2 : List ℕ) (next next2 : ℕ) → store ≡ store2 → listed ≡ listed2 → next ≡ next2 → seen store listed next ≡ seen store2 listed2 next2
all_three store store2 listed listed2 next next2 e f h = ap (λ s. seen s listed next) e ∙ ap (λ l. seen store2 l next) f ∙ ap (seen store2 listed2) h

module _ {A : Type 0} where
  -- ---- what labels have, as a store with listed labels

  none_below : (first l : ℕ) (hs : List (Option (Held A))) → l < first → atom_at (atoms_from first hs) l ≡ None
  none_below first l [] h = refl
  none_below first l (None ∷ hs) h = none_below (first + 1) l hs (omega arith)
  none_below first l (Some a ∷ hs) h = grind (arith, nat_tests, none_below (first + 1) l hs (let u : l < first + 1 = omega arith in u))

  at_label : (first i l : ℕ) (hs : List (Option (Held A))) → l ≡ i + first → atom_at (atoms_from first hs) l ≡ option_map (λ h. h.atom) (option_flatten (slice_get hs i))
  at_label first i l [] e = refl
  at_label first zero l (None ∷ hs) e = none_below (first + 1) l hs (omega arith)
  at_label first zero l (Some a ∷ hs) e = ap (λ (b : Bool). if b then Some a.atom else atom_at (atoms_from (first + 1) hs) l) (eq-eqb first l (omega arith))
  at_label first (suc i) l (None ∷ hs) e = at_label (first + 1) i l hs (omega arith)
  at_label first (suc i) l (Some a ∷ hs) e = grind (arith, nat_tests, at_label (first + 1) i l hs (let u : l ≡ i + (first + 1) = omega arith in u))

  -- an atom is there, and it is listed
  abbrev pub IsMarked : Option (Held A) → Type 0
  IsMarked None = ⊥
  IsMarked (Some h) = h.listed ≡ true

  -- the labels in front of others
  listed_more : (first l : ℕ) (h : Held A) (hs : List (Option (Held A))) → IsIn l (listed_from (first + 1) hs) → IsIn l (listed_from first (Some h ∷ hs))
  listed_more first l h hs i = elim h.listed as (λ b. IsIn l (if b then first ∷ listed_from (first + 1) hs else listed_from (first + 1) hs)) [ true ↦ inr i | false ↦ i ]

  listed_less : (first l : ℕ) (h : Held A) (hs : List (Option (Held A))) → IsIn l (listed_from first (Some h ∷ hs)) → ((first ≡ l) × (h.listed ≡ true)) ⊎ IsIn l (listed_from (first + 1) hs)
  listed_less first l h hs i = elim h.listed as (λ b. IsIn l (if b then first ∷ listed_from (first + 1) hs else listed_from (first + 1) hs) → ((first ≡ l) × (b ≡ true)) ⊎ IsIn l (listed_from (first + 1) hs)) [
    | true ↦ λ j. elim j [ inl e ↦ inl (e, refl) | inr k ↦ inr k ]
    | false ↦ λ j. inr j
  ] i

  not_below : (first l : ℕ) (hs : List (Option (Held A))) → l < first → IsIn l (listed_from first hs) → ⊥
  not_below first l [] h i = elim i [ ]
  not_below first l (None ∷ hs) h i = not_below (first + 1) l hs (omega arith) i
  not_below first l (Some a ∷ hs) h i = elim (listed_less first l a hs i) [ inl e ↦ (let s : first ≡ l = e.0 in omega arith) | inr j ↦ not_below (first + 1) l hs (omega arith) j ]

  marked_at : (first i l : ℕ) (hs : List (Option (Held A))) → l ≡ i + first → IsIn l (listed_from first hs) → IsMarked (option_flatten (slice_get hs i))
  marked_at first zero l [] e j = elim j [ ]
  marked_at first (suc i) l [] e j = elim j [ ]
  marked_at first zero l (None ∷ hs) e j = not_below (first + 1) l hs (omega arith) j
  marked_at first zero l (Some a ∷ hs) e j = elim (listed_less first l a hs j) [ inl m ↦ m.1 | inr k ↦ absurd (not_below (first + 1) l hs (omega arith) k) ]
  marked_at first (suc i) l (None ∷ hs) e j = marked_at (first + 1) i l hs (omega arith) j
  marked_at first (suc i) l (Some a ∷ hs) e j = elim (listed_less first l a hs j) [ inl m ↦ absurd (let s : first ≡ l = m.0 in omega arith) | inr k ↦ marked_at (first + 1) i l hs (omega arith) k ]

  listed_at : (first i l : ℕ) (hs : List (Option (Held A))) → l ≡ i + first → IsMarked (option_flatten (slice_get hs i)) → IsIn l (listed_from first hs)
  listed_at first zero l [] e m = elim m [ ]
  listed_at first zero l (None ∷ hs) e m = elim m [ ]
  listed_at first (suc i) l [] e m = elim m [ ]
  listed_at first zero l (Some a ∷ hs) e m = subst (λ (b : Bool). IsIn l (if b then first ∷ listed_from (first + 1) hs else listed_from (first + 1) hs)) (sym m) (inl (omega arith))
  listed_at first (suc i) l (None ∷ hs) e m = listed_at (first + 1) i l hs (omega arith) m
  listed_at first (suc i) l (Some a ∷ hs) e m = listed_more first l a hs (listed_at (first + 1) i l hs (omega arith) m)

  not_above : (first l : ℕ) (hs : List (Option (Held A))) → length hs + first ≤ l → IsIn l (listed_from first hs) → ⊥
  not_above first l [] h i = elim i [ ]
  not_above first l (None ∷ hs) h i = not_above (first + 1) l hs (omega arith) i
  not_above first l (Some a ∷ hs) h i = elim (listed_less first l a hs i) [ inl e ↦ (let s : first ≡ l = e.0 in omega arith) | inr j ↦ not_above (first + 1) l hs (omega arith) j ]

  -- ---- an atom less

  dropped_at : (first i l : ℕ) (hs : List (Option (Held A))) → l ≡ i + first → atoms_from first (slice_set hs i None) ≡ drop_label l (atoms_from first hs)
  dropped_at first i l [] e = refl
  dropped_at first zero l (None ∷ hs) e = sym (drop_absent l (atoms_from (first + 1) hs) (none_below (first + 1) l hs (omega arith)))
  dropped_at first zero l (Some a ∷ hs) e = sym (ap (λ (b : Bool). if b then drop_label l (atoms_from (first + 1) hs) else (first, a.atom) ∷ drop_label l (atoms_from (first + 1) hs)) (eq-eqb first l (omega arith)) ∙ drop_absent l (atoms_from (first + 1) hs) (none_below (first + 1) l hs (omega arith)))
  dropped_at first (suc i) l (None ∷ hs) e = dropped_at (first + 1) i l hs (omega arith)
  dropped_at first (suc i) l (Some a ∷ hs) e = grind (arith, nat_tests, dropped_at (first + 1) i l hs (let u : l ≡ i + (first + 1) = omega arith in u))

  unlisted_at : (first i l : ℕ) (hs : List (Option (Held A))) → l ≡ i + first → listed_from first (slice_set hs i None) ≡ drop_number l (listed_from first hs)
  unlisted_at first i l [] e = refl
  unlisted_at first zero l (None ∷ hs) e = sym (drop_missing l (listed_from (first + 1) hs) (not_below (first + 1) l hs (omega arith)))
  unlisted_at first zero l (Some a ∷ hs) e = sym (here a.listed ∙ drop_missing l (listed_from (first + 1) hs) (not_below (first + 1) l hs (omega arith)))
    where
      here : (b : Bool) → drop_number l (if b then first ∷ listed_from (first + 1) hs else listed_from (first + 1) hs) ≡ drop_number l (listed_from (first + 1) hs)
      here true = ap (λ (t : Bool). if t then drop_number l (listed_from (first + 1) hs) else first ∷ drop_number l (listed_from (first + 1) hs)) (eq-eqb first l (omega arith))
      here false = refl
  unlisted_at first (suc i) l (None ∷ hs) e = unlisted_at (first + 1) i l hs (omega arith)
  unlisted_at first (suc i) l (Some a ∷ hs) e = ap (λ (ms : List ℕ). if a.listed then first ∷ ms else ms) (unlisted_at (first + 1) i l hs (omega arith)) ∙ there a.listed
    where
      there : (b : Bool) → (if b then first ∷ drop_number l (listed_from (first + 1) hs) else drop_number l (listed_from (first + 1) hs)) ≡ drop_number l (if b then first ∷ listed_from (first + 1) hs else listed_from (first + 1) hs)
      there true = grind (arith, nat_tests)
      there false = refl

  -- ---- an atom more

  pushed_at : (first l : ℕ) (h : Held A) (hs : List (Option (Held A))) → l ≡ length hs + first → atoms_from first (hs ++ Some h ∷ []) ≡ atoms_from first hs ++ (l, h.atom) ∷ []
  pushed_at first l h [] e = ap (λ n. (n, h.atom) ∷ []) (omega arith)
  pushed_at first l h (None ∷ hs) e = pushed_at (first + 1) l h hs (omega arith)
  pushed_at first l h (Some b ∷ hs) e = ap (λ (es : Store). (first, b.atom) ∷ es) (pushed_at (first + 1) l h hs (omega arith))

  listed_pushed : (first : ℕ) (h : Held A) (hs : List (Option (Held A))) → h.listed ≡ false → listed_from first (hs ++ Some h ∷ []) ≡ listed_from first hs
  listed_pushed first h [] e = ap (λ (b : Bool). if b then first ∷ [] else []) e
  listed_pushed first h (None ∷ hs) e = listed_pushed (first + 1) h hs e
  listed_pushed first h (Some b ∷ hs) e = ap (λ (ms : List ℕ). if b.listed then first ∷ ms else ms) (listed_pushed (first + 1) h hs e)

  -- ---- a label that is listed

  same_atoms : (first i : ℕ) (old new : Held A) (hs : List (Option (Held A))) → option_flatten (slice_get hs i) ≡ Some old → new.atom ≡ old.atom → atoms_from first (slice_set hs i (Some new)) ≡ atoms_from first hs
  same_atoms first i old new [] s e = absurd (cc)
  same_atoms first zero old new (None ∷ hs) s e = absurd (cc)
  same_atoms first zero old new (Some b ∷ hs) s e = (let same : b ≡ old = cc in ap (λ (a : Atom ℕ). (first, a) ∷ atoms_from (first + 1) hs) (e ∙ ap (λ (h : Held A). h.atom) (sym same)))
  same_atoms first (suc i) old new (None ∷ hs) s e = same_atoms (first + 1) i old new hs s e
  same_atoms first (suc i) old new (Some b ∷ hs) s e = ap (λ (es : Store). (first, b.atom) ∷ es) (same_atoms (first + 1) i old new hs s e)

  -- ---- what a slot has

  -- what a slot has is no other label's
  abbrev pub IsOf : ℕ → Option (Held A) → Type 0
  IsOf label None = Unit {0}
  IsOf label (Some h) = h.label ≡ label

  no_other : (label l : ℕ) (o : Option (Held A)) → IsOf label o → l ≢ label → owned l o ≡ None
  no_other label l None h d = refl
  no_other label l (Some x) h d = grind (arith, nat_tests, h, d)

  pub own : (label : ℕ) (h : Held A) → h.label ≡ label → owned label (Some h) ≡ Some h
  own label h e = ap (λ (b : Bool). if b then Some h else None) (eq-eqb h.label label e)

  pub owned_some : (label : ℕ) (o : Option (Held A)) (h : Held A) → owned label o ≡ Some h → (o ≡ Some h) × (h.label ≡ label)
  owned_some label None h e = absurd (cc)
  owned_some label (Some x) h e = elim (decided (x.label == label)) [
    | inl t ↦ let same : x ≡ h = some_same x h (sym (ap (λ (b : Bool). if b then Some x else None) t) ∙ e) in (ap (λ (z : Held A). Some z) same, sym (ap (λ (z : Held A). z.label) same) ∙ eqb-true x.label label t)
    | inr f ↦ absurd (none_some h (sym (ap (λ (b : Bool). if b then Some x else None) f) ∙ e))
  ]
    where
      decided : (b : Bool) → (b ≡ true) ⊎ (b ≡ false)
      decided true = inl refl
      decided false = inr refl

      some_same : (x h : Held A) → Some x ≡ Some h → x ≡ h
      some_same x h e = cc

      none_some : (h : Held A) → None ≡ Some h → ⊥
      none_some h e = absurd (cc)

  module _ (held : Slab (Held A)) where
    -- what a label has by its slot, where it has one
    abbrev pub by_slot : ℕ → Option ℕ → Option (Held A)
    by_slot l None = None
    by_slot l (Some slot) = owned l (get held slot)

    at_slot : (first i l : ℕ) (slots : List ℕ) → l ≡ i + first → option_flatten (slice_get (held_from held first slots) i) ≡ by_slot l (slice_get slots i)
    at_slot first i l [] e = refl
    at_slot first zero l (slot ∷ slots) e = (let here : first ≡ l = omega arith in ap (λ (k : ℕ). owned k (get held slot)) here)
    at_slot first (suc i) l (slot ∷ slots) e = at_slot (first + 1) i l slots (omega arith)

    pub held_by_slot : (slots : List ℕ) (i l : ℕ) → l ≡ suc i → held_at held slots l ≡ by_slot l (slice_get slots i)
    held_by_slot slots i zero e = absurd (omega arith)
    held_by_slot slots i (suc j) e = let same : j ≡ i = omega arith in at_slot 1 j (suc j) slots (omega arith) ∙ ap (λ (k : ℕ). by_slot (suc j) (slice_get slots k)) same

    pub held_length : (first : ℕ) (slots : List ℕ) → length (held_from held first slots) ≡ length slots
    held_length first [] = refl
    held_length first (slot ∷ slots) = let rest = held_length (first + 1) slots in omega arith

    -- the atom of a label, and whether it is listed, are what it has
    pub atom_held : (slots : List ℕ) (l : ℕ) → atom_at (seen_in held slots).store l ≡ option_map (λ h. h.atom) (held_at held slots l)
    atom_held slots zero = none_below 1 0 (held_from held 1 slots) (omega arith)
    atom_held slots (suc i) = at_label 1 i (suc i) (held_from held 1 slots) (omega arith)

    pub marked_held : (slots : List ℕ) (l : ℕ) → IsIn l (seen_in held slots).listed → IsMarked (held_at held slots l)
    marked_held slots zero j = not_below 1 0 (held_from held 1 slots) (omega arith) j
    marked_held slots (suc i) j = marked_at 1 i (suc i) (held_from held 1 slots) (omega arith) j

    pub listed_held : (slots : List ℕ) (l : ℕ) → IsMarked (held_at held slots l) → IsIn l (seen_in held slots).listed
    listed_held slots zero m = elim m [ ]
    listed_held slots (suc i) m = listed_at 1 i (suc i) (held_from held 1 slots) (omega arith) m

    -- the label that comes next isn't listed
    pub fresh : (slots : List ℕ) (seen : ListedStore) → seen_in held slots ≡ seen → IsIn seen.next seen.listed → ⊥
    fresh slots seen view j = not_above 1 (length slots + 1) (held_from held 1 slots) (omega (arith, held_length 1 slots)) (subst (λ (s : ListedStore). IsIn s.next s.listed) (sym view) j)

  -- ---- a slot that changes

  module _ (old new : Slab (Held A)) (label : ℕ) (others : (l slot : ℕ) → l ≢ label → owned l (get new slot) ≡ owned l (get old slot)) where
    same_later : (first : ℕ) (slots : List ℕ) → label < first → held_from new first slots ≡ held_from old first slots
    same_later first [] h = refl
    same_later first (slot ∷ slots) h = ap₂ (λ o os. o ∷ os) (others first slot (λ e. omega arith)) (same_later (first + 1) slots (omega arith))

    set_at : (first i slot : ℕ) (slots : List ℕ) → label ≡ i + first → slice_get slots i ≡ Some slot → held_from new first slots ≡ slice_set (held_from old first slots) i (owned label (get new slot))
    set_at first i slot [] e s = absurd (cc)
    set_at first zero slot (k ∷ slots) e s = (let same : k ≡ slot = cc in let here : first ≡ label = omega arith in ap₂ (λ o os. o ∷ os) (ap₂ (λ (l m : ℕ). owned l (get new m)) here same) (same_later (first + 1) slots (omega arith)))
    set_at first (suc i) slot (k ∷ slots) e s = ap₂ (λ o os. o ∷ os) (others first k (λ d. omega arith)) (set_at (first + 1) i slot slots (omega arith) s)

    push_at : (first slot : ℕ) (slots : List ℕ) → label ≡ length slots + first → held_from new first (slots ++ slot ∷ []) ≡ held_from old first slots ++ owned label (get new slot) ∷ []
    push_at first slot [] e = (let here : first ≡ label = omega arith in ap (λ (l : ℕ). owned l (get new slot) ∷ []) here)
    push_at first slot (k ∷ slots) e = ap₂ (λ o os. o ∷ os) (others first k (λ d. omega arith)) (push_at (first + 1) slot slots (omega arith))

  pub others_from : (old new : Slab (Held A)) (label slot : ℕ) (o : Option (Held A)) → Updates old new slot o → IsOf label (get old slot) → IsOf label o → (l s : ℕ) → l ≢ label → owned l (get new s) ≡ owned l (get old s)
  others_from old new label slot o up h k l s d = elim (cases_eq s slot) [
    | inl e ↦ ap (λ (n : ℕ). owned l (get new n)) e ∙ (ap (owned l) up.changed ∙ no_other label l o k d) ∙ sym (ap (λ (n : ℕ). owned l (get old n)) e ∙ no_other label l (get old slot) h d)
    | inr away ↦ ap (owned l) (up.others s away)
  ]

  -- an atom under the next label
  pub seen_pushed : (old new : Slab (Held A)) (slots : List ℕ) (slot : ℕ) (h : Held A) → Updates old new slot (Some h) → get old slot ≡ None → h.label ≡ length slots + 1 → h.listed ≡ false → seen_in new (slots ++ slot ∷ []) ≡ with_atom h.atom (seen_in old slots)
  seen_pushed old new slots slot h up vacant e f =
      let label = length slots + 1 in
      let others = others_from old new label slot (Some h) up (subst (IsOf label) (sym vacant) tt) e in
      let all : held_from new 1 (slots ++ slot ∷ []) ≡ held_from old 1 slots ++ Some h ∷ [] = push_at old new label others 1 slot slots refl ∙ ap (λ o. held_from old 1 slots ++ o ∷ []) (ap (owned label) up.changed ∙ own label h e) in
      all_three _ _ _ _ _ _
      (ap (atoms_from 1) all ∙ pushed_at 1 label h (held_from old 1 slots) (omega (arith, held_length old 1 slots)))
      (ap (listed_from 1) all ∙ listed_pushed 1 h (held_from old 1 slots) f)
      (omega (arith, length-append slots (slot ∷ [])))

  module _ (old new : Slab (Held A)) (slots : List ℕ) (i l slot : ℕ) (next : l ≡ suc i) (here : slice_get slots i ≡ Some slot) (h : Held A) (there : get old slot ≡ Some h) (is : h.label ≡ l) where
    -- a label less
    pub seen_dropped : Updates old new slot None → seen_in new slots ≡ without_label l (seen_in old slots)
    seen_dropped up =
        let others = others_from old new l slot None up (subst (IsOf l) (sym there) is) tt in
        let all : held_from new 1 slots ≡ slice_set (held_from old 1 slots) i None = set_at old new l others 1 i slot slots (omega arith) here ∙ ap (λ o. slice_set (held_from old 1 slots) i o) (ap (owned l) up.changed) in
        all_three _ _ _ _ _ _
        (ap (atoms_from 1) all ∙ dropped_at 1 i l (held_from old 1 slots) (omega arith))
        (ap (listed_from 1) all ∙ unlisted_at 1 i l (held_from old 1 slots) (omega arith))
        refl

    -- a label that is listed
    module _ (h2 : Held A) (up : Updates old new slot (Some h2)) (same : h2.atom ≡ h.atom) (is2 : h2.label ≡ l) (marked : h2.listed ≡ true) where
      others : (k s : ℕ) → k ≢ l → owned k (get new s) ≡ owned k (get old s)
      others = others_from old new l slot (Some h2) up (subst (IsOf l) (sym there) is) is2

      all : held_from new 1 slots ≡ slice_set (held_from old 1 slots) i (Some h2)
      all = set_at old new l others 1 i slot slots (omega arith) here ∙ ap (λ o. slice_set (held_from old 1 slots) i o) (ap (owned l) up.changed ∙ own l h2 is2)

      was : option_flatten (slice_get (held_from old 1 slots) i) ≡ Some h
      was = at_slot old 1 i l slots (omega arith) ∙ ap (by_slot old l) here ∙ ap (owned l) there ∙ own l h is

      pub marked_store : (seen_in new slots).store ≡ (seen_in old slots).store
      marked_store = ap (atoms_from 1) all ∙ same_atoms 1 i h h2 (held_from old 1 slots) was same

      pub marked_listed : IsIn l (seen_in new slots).listed
      marked_listed = listed_held new slots l (subst IsMarked (sym (held_by_slot new slots i l next ∙ ap (by_slot new l) here ∙ ap (owned l) up.changed ∙ own l h2 is2)) marked)

      as_before : (k : ℕ) → k ≢ l → held_at new slots k ≡ held_at old slots k
      as_before zero d = refl
      as_before (suc j) d = held_by_slot new slots j (suc j) refl ∙ by (slice_get slots j) ∙ sym (held_by_slot old slots j (suc j) refl)
        where
          by : (o : Option ℕ) → by_slot new (suc j) o ≡ by_slot old (suc j) o
          by None = refl
          by (Some s) = others (suc j) s d

      pub marked_others : (k : ℕ) → k ≢ l → IsIn k (seen_in new slots).listed ↔ IsIn k (seen_in old slots).listed
      marked_others k d = ((λ m. listed_held old slots k (subst IsMarked (as_before k d) (marked_held new slots k m))), (λ m. listed_held new slots k (subst IsMarked (sym (as_before k d)) (marked_held old slots k m))))

  own_label : (held : Slab (Held A)) (slots : List ℕ) (l : ℕ) (h : Held A) → held_at held slots l ≡ Some h → h.label ≡ l
  own_label held slots zero h e = absurd (cc)
  own_label held slots (suc i) h e = by (slice_get slots i) (sym (held_by_slot held slots i (suc i) refl) ∙ e)
    where
      by : (o : Option ℕ) → by_slot held (suc i) o ≡ Some h → h.label ≡ suc i
      by None e = absurd (cc)
      by (Some slot) e = (owned_some (suc i) (get held slot) h e).1

  -- ---- what contracts see of a label

  module _ (held : Slab (Held A)) (slots : List ℕ) (seen : ListedStore) (view : seen_in held slots ≡ seen) (l : ℕ) where
    pub atom_is : atom_at seen.store l ≡ option_map (λ h. h.atom) (held_at held slots l)
    atom_is = ap (λ (s : ListedStore). atom_at s.store l) (sym view) ∙ atom_held held slots l

    pub marked_is : IsIn l seen.listed → IsMarked (held_at held slots l)
    marked_is j = marked_held held slots l (subst (λ (s : ListedStore). IsIn l s.listed) (sym view) j)

    pub found_is : (h : Held A) → held_at held slots l ≡ Some h → atom_at seen.store l ≡ Some h.atom
    found_is h e = atom_is ∙ ap (option_map (λ h. h.atom)) e

    pub held_is : (h : Held A) → held_at held slots l ≡ Some h → IsHeld seen l h
    held_is h e = record {
      label = own_label held slots l h e;
      atom = found_is h e;
      listed = (
        (λ m. subst (λ (s : ListedStore). IsIn l s.listed) view (listed_held held slots l (subst IsMarked (sym e) m))),
        (λ j. subst IsMarked e (marked_is j)),
      );
    }

    pub missing : held_at held slots l ≡ None → IsIn l seen.listed → ⊥
    missing e j = subst IsMarked e (marked_is j)

    pub absent : held_at held slots l ≡ None → atom_at seen.store l ≡ None
    absent e = atom_is ∙ ap (option_map (λ h. h.atom)) e

    pub seen_of : (r : Option (Bor (Held A))) → option_copied r ≡ held_at held slots l → MatchOption r (atom_at seen.store l ≡ None) (λ h. IsHeld seen l h.now)
    seen_of None e = absent (sym e)
    seen_of (Some h) e = held_is h.now (sym e)

    pub same_without : held_at held slots l ≡ None → seen ≡ without_label l seen
    same_without e = sym (all_three _ _ _ _ _ _ (drop_absent l seen.store (absent e)) (drop_missing l seen.listed (missing e)) refl)

  pub slot_gives : (held : Slab (Held A)) (slots : List ℕ) (l slot : ℕ) (h : Held A) → IsSlotOf held slots l slot → get held slot ≡ Some h → (held_at held slots l ≡ Some h) × (h.label ≡ l)
  slot_gives held slots l slot h at there =
      let same : at.has ≡ h = one_some _ _ (sym at.there ∙ there) in
      let is : h.label ≡ l = sym (ap (λ (z : Held A). z.label) same) ∙ at.own in
      (held_by_slot held slots at.index l at.next ∙ ap (by_slot held l) at.here ∙ ap (owned l) there ∙ own l h is, is)

  -- an atom whose label is listed
  abbrev pub marked : Held A → Held A
  marked h = record { label = h.label; listed = true; atom = h.atom }

  module _ (held : Slab (Held A)) (slots : List ℕ) (seen : ListedStore) (view : seen_in held slots ≡ seen) (l slot : ℕ) (at : IsSlotOf held slots l slot) (h : Held A) (there : get held slot ≡ Some h) where
    abbrev after : Slab (Held A)
    after = with_value held slot (marked h)

    is : h.label ≡ l
    is = (slot_gives held slots l slot h at there).1

    changed : Updates held after slot (Some (marked h))
    changed = Updates-with_value held slot (marked h) (subst (λ (o : Option (Held A)). IsSome o) (sym there) refl)

    pub set_store : (seen_in after slots).store ≡ seen.store
    set_store = marked_store held after slots at.index l slot at.next at.here h there is (marked h) changed refl is refl ∙ ap (λ (s : ListedStore). s.store) view

    pub set_listed : IsIn l (seen_in after slots).listed
    set_listed = marked_listed held after slots at.index l slot at.next at.here h there is (marked h) changed refl is refl

    pub set_others : (k : ℕ) → k ≢ l → IsIn k (seen_in after slots).listed ↔ IsIn k seen.listed
    set_others k d = subst (λ (s : ListedStore). IsIn k (seen_in after slots).listed ↔ IsIn k s.listed) view (marked_others held after slots at.index l slot at.next at.here h there is (marked h) changed refl is refl k d)
