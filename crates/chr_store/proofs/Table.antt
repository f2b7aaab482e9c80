-- Atoms in slots by label.
use Rattle.std.proofs.Common.{◌≡◌, ◌≢◌, ℕ, zero, suc, ◌+◌, ◌-◌, ◌<◌, ◌≤◌, if◌then◌else◌, Bool, List, [], ◌∷◌, ◌++◌, Option, Some, None, inl, inr, refl, sym, ap, ap₂, arith, length, ◌∙◌, slice_get, slice_set, Bor, true, false, ◌==◌, ◌*◌, ◌/◌, subst, take, drop, slice_index, get_or, option_map}
use Rattle.std.specs.Option.{option_flatten, option_map, option_copied}
use Rattle.std.specs.Slice.{IsItemAt}
use Rattle.std.proofs.lemmas.Bool.{eq-eqb, cases_eq, cases_lt}
use Rattle.std.proofs.lemmas.Bool.Decides.{nat_tests}
use Rattle.std.proofs.lemmas.List.{take_more, map_push, length-map, length-append, length-set, drop-map, take_rest, get_or_append_left, get_or-set_same, get_or-set_other}
use Rattle.std.proofs.lemmas.List.Elements.{All-from_recursion, recursion_from_All, All-set}
use Rattle.std.proofs.lemmas.Option.{slice_get-map, slice_get_past, slice_get_read, slice_get_within}
use Rattle.chr_value.specs.Atoms.{Atom}
use Rattle.chr_value.specs.Stores.{Store, atom_at, drop_label}
use Rattle.chr_store.specs.Labels.{GivenAtoms, Rising, GivenBefore, IsLabelled}
use Rattle.chr_store.specs.Table.{Held, atom_in, no_slot, held_in, entries_from, IsSlotOf, IsOwnSlot, AreApart, AreOnce, IsTable, AreLinked, HasTable}
use Rattle.std.specs.List.{AllByRecursion}
use Rattle.chr_value.proofs.Places.{all-push}
use Rattle.chr_index.proofs.Slots.{all_map}
use Rattle.std.proofs.Math.Seq.{get_or-append_seam}
use Rattle.std.proofs.lemmas.Grind.{get_or_default_zero}
use Rattle.chr_store.specs.Blocks.{one_in, atoms_in, AreCounts, AreEmptyAtNone}

given_push : (n : ℕ) (a : Atom ℕ) (es : Store) → 1 ≤ n → GivenBefore n es → GivenBefore (n + 1) (es ++ (n, a) ∷ [])
given_push n a [] f h = ((f, omega arith), tt)
given_push n a (e ∷ es) f h = ((h.0.0, (let b : e.0 < n = h.0.1 in omega arith)), given_push n a es f h.1)

rising_push : (n : ℕ) (a : Atom ℕ) (es : Store) → GivenBefore n es → Rising es → Rising (es ++ (n, a) ∷ [])
rising_push n a [] b h = (tt, tt)
rising_push n a (e ∷ es) b h = (all-push (λ f. e.0 < f.0) es (n, a) h.0 b.0.1, rising_push n a es b.1 h.1)

pub labelled_push : (n k : ℕ) (a : Atom ℕ) (es : Store) → n ≤ k → IsLabelled (record { entries = es; next = n; limit = k }) → IsLabelled (record { entries = es ++ (n, a) ∷ []; next = n + 1; limit = k })
labelled_push n k a es w h = record {
  rising = rising_push n a es h.given h.rising;
  given = given_push n a es h.first h.given;
  first = omega arith;
  within = omega arith;
  limit = h.limit;
}

pub drop_absent : (l : ℕ) (es : Store) → AllByRecursion (λ f. l < f.0) es → drop_label l es ≡ es
drop_absent l [] h = refl
drop_absent l (e ∷ es) h = let b : l < e.0 = h.0 in grind (arith, nat_tests, drop_absent l es h.1)

pub drop_none : (l : ℕ) (es : Store) → atom_at es l ≡ None → drop_label l es ≡ es
drop_none l [] h = refl
drop_none l (e ∷ es) h = elim (e.0 == l) as (λ b. (if b then Some e.1 else atom_at es l) ≡ None → (if b then drop_label l es else e ∷ drop_label l es) ≡ e ∷ es) [ true ↦ λ k. absurd (cc) | false ↦ λ k. ap (λ (z : Store). e ∷ z) (drop_none l es k) ] h

drop_all : (P : ℕ × Atom ℕ → Type 0) (l : ℕ) (es : Store) → AllByRecursion P es → AllByRecursion P (drop_label l es)
drop_all P l [] h = tt
drop_all P l (e ∷ es) h = elim (e.0 == l) as (λ b. AllByRecursion P (if b then drop_label l es else e ∷ drop_label l es)) [ true ↦ drop_all P l es h.1 | false ↦ (h.0, drop_all P l es h.1) ]

rising_drop : (l : ℕ) (es : Store) → Rising es → Rising (drop_label l es)
rising_drop l [] h = tt
rising_drop l (e ∷ es) h = elim (e.0 == l) as (λ b. Rising (if b then drop_label l es else e ∷ drop_label l es)) [ true ↦ rising_drop l es h.1 | false ↦ (drop_all (λ f. e.0 < f.0) l es h.0, rising_drop l es h.1) ]

pub labelled_drop : (l n k : ℕ) (es : Store) → IsLabelled (record { entries = es; next = n; limit = k }) → IsLabelled (record { entries = drop_label l es; next = n; limit = k })
labelled_drop l n k es h = record {
  rising = rising_drop l es h.rising;
  given = drop_all (λ e. (1 ≤ e.0) × (e.0 < n)) l es h.given;
  first = h.first;
  within = h.within;
  limit = h.limit;
}

-- what contracts see of the atoms and the slots of labels, without a label, and with an atom more
abbrev pub table_of : Held → List ℕ → GivenAtoms
table_of held slots = record { entries = entries_from 1 (held_in held slots); next = length slots + 1 }

abbrev pub without_label : ℕ → GivenAtoms → GivenAtoms
without_label l s = record { entries = drop_label l s.entries; next = s.next }

abbrev pub with_atom : Atom ℕ → GivenAtoms → GivenAtoms
with_atom a s = record { entries = s.entries ++ (s.next, a) ∷ []; next = s.next + 1 }

-- and with a label spent
abbrev pub without_atom : GivenAtoms → GivenAtoms
without_atom s = record { entries = s.entries; next = s.next + 1 }

abbrev pub given : Store → ℕ → GivenAtoms
given es n = record { entries = es; next = n }

both : (es fs : Store) (m n : ℕ) → es ≡ fs → m ≡ n → given es m ≡ given fs n
both es fs m n e f = ap (λ z. given z m) e ∙ ap (given fs) f

-- the atom of each label, or none
abbrev pub Labelled : Type 0
Labelled = List (Option (Atom ℕ))

-- ---- the atom of a label

none_below : (first l : ℕ) (xs : Labelled) → l < first → atom_at (entries_from first xs) l ≡ None
none_below first l [] h = refl
none_below first l (None ∷ xs) h = none_below (first + 1) l xs (omega arith)
none_below first l (Some a ∷ xs) h = grind (arith, nat_tests, none_below (first + 1) l xs (let u : l < first + 1 = omega arith in u))

at_slot : (first i l : ℕ) (xs : Labelled) → l ≡ i + first → atom_at (entries_from first xs) l ≡ option_flatten (slice_get xs i)
at_slot first i l [] e = refl
at_slot first zero l (None ∷ xs) e = none_below (first + 1) l xs (omega arith)
at_slot first zero l (Some a ∷ xs) e = ap (λ (b : Bool). if b then Some a else atom_at (entries_from (first + 1) xs) l) (eq-eqb first l (omega arith))
at_slot first (suc i) l (None ∷ xs) e = at_slot (first + 1) i l xs (omega arith)
at_slot first (suc i) l (Some a ∷ xs) e = grind (arith, nat_tests, at_slot (first + 1) i l xs (let u : l ≡ i + (first + 1) = omega arith in u))

-- a look-up in the slots is one in the entries
pub found : (xs : Labelled) (l i : ℕ) → IsSlotOf l i → length xs ≤ 4294967295 → atom_at (entries_from 1 xs) l ≡ option_flatten (slice_get xs i)
found xs l i at within = elim (cases_eq l 0) [
  | inl e ↦ none_below 1 l xs (omega arith) ∙ sym (ap option_flatten (slice_get_past xs i (let u : 4294967295 ≤ i = at.none e in omega arith)))
  | inr d ↦ at_slot 1 i l xs (let u : i + 1 ≡ l = at.own (omega arith) in omega arith)
]

-- ---- an atom less

dropped_at : (first i l : ℕ) (xs : Labelled) → l ≡ i + first → entries_from first (slice_set xs i None) ≡ drop_label l (entries_from first xs)
dropped_at first i l [] e = refl
dropped_at first zero l (None ∷ xs) e = sym (drop_none l (entries_from (first + 1) xs) (none_below (first + 1) l xs (omega arith)))
dropped_at first zero l (Some a ∷ xs) e = sym (ap (λ (b : Bool). if b then drop_label l (entries_from (first + 1) xs) else (first, a) ∷ drop_label l (entries_from (first + 1) xs)) (eq-eqb first l (omega arith)) ∙ drop_none l (entries_from (first + 1) xs) (none_below (first + 1) l xs (omega arith)))
dropped_at first (suc i) l (None ∷ xs) e = dropped_at (first + 1) i l xs (omega arith)
dropped_at first (suc i) l (Some a ∷ xs) e = grind (arith, nat_tests, dropped_at (first + 1) i l xs (let u : l ≡ i + (first + 1) = omega arith in u))

fewer : (first i : ℕ) (xs : Labelled) (a : Atom ℕ) → slice_get xs i ≡ Some (Some a) → length (entries_from first (slice_set xs i None)) + 1 ≡ length (entries_from first xs)
fewer first i [] a h = absurd (cc)
fewer first zero (None ∷ xs) a h = absurd (cc)
fewer first zero (Some b ∷ xs) a h = omega arith
fewer first (suc i) (None ∷ xs) a h = fewer (first + 1) i xs a h
fewer first (suc i) (Some b ∷ xs) a h = (let less = fewer (first + 1) i xs a h in omega arith)

-- ---- an atom more

pushed_at : (first l : ℕ) (a : Atom ℕ) (xs : Labelled) → l ≡ length xs + first → entries_from first (xs ++ Some a ∷ []) ≡ entries_from first xs ++ (l, a) ∷ []
pushed_at first l a [] e = ap (λ n. (n, a) ∷ []) (omega arith)
pushed_at first l a (None ∷ xs) e = pushed_at (first + 1) l a xs (omega arith)
pushed_at first l a (Some b ∷ xs) e = ap (λ (es : Store). (first, b) ∷ es) (pushed_at (first + 1) l a xs (omega arith))

skipped_at : (first : ℕ) (xs : Labelled) → entries_from first (xs ++ None ∷ []) ≡ entries_from first xs
skipped_at first [] = refl
skipped_at first (None ∷ xs) = skipped_at (first + 1) xs
skipped_at first (Some b ∷ xs) = ap (λ (es : Store). (first, b) ∷ es) (skipped_at (first + 1) xs)

pub at_most : (first : ℕ) (xs : Labelled) → length (entries_from first xs) ≤ length xs
at_most first [] = omega arith
at_most first (None ∷ xs) = let rest = at_most (first + 1) xs in omega arith
at_most first (Some a ∷ xs) = let rest = at_most (first + 1) xs in omega arith

-- ---- over the slots

-- what a `get` of a slice shows
pub looked_at : {X : Type 0} (xs : List X) (i : ℕ) (r : Option (Bor X)) → IsItemAt xs i r → slice_get xs i ≡ option_copied r
looked_at xs i None h = slice_get_past xs i h.3
looked_at xs i (Some x) h = slice_get_read xs (length xs) i x.now refl h.3.0 h.1

-- the atom of a slot that there is
abbrev pub seen_in : Held → Option ℕ → Option (Atom ℕ)
seen_in held slot = option_flatten (option_map (atom_in held) slot)

-- a label more, with its slot
module _ (held : Held) (slots : List ℕ) (s : ℕ) where
  with_none : atom_in held s ≡ None → table_of held (slots ++ s ∷ []) ≡ without_atom (table_of held slots)
  with_none is = both _ _ _ _ (ap (entries_from 1) (map_push (atom_in held) slots s ∙ ap (λ x. held_in held slots ++ x ∷ []) is) ∙ skipped_at 1 (held_in held slots)) (omega (arith, length-append slots (s ∷ [])))

  with_some : (a : Atom ℕ) → atom_in held s ≡ Some a → table_of held (slots ++ s ∷ []) ≡ with_atom a (table_of held slots)
  with_some a is = both _ _ _ _ (ap (entries_from 1) (map_push (atom_in held) slots s ∙ ap (λ x. held_in held slots ++ x ∷ []) is) ∙ pushed_at 1 (length slots + 1) a (held_in held slots) (omega (arith, length-map slots (atom_in held)))) (omega (arith, length-append slots (s ∷ [])))

-- the labels up to one
module _ (held : Held) (slots : List ℕ) (i : ℕ) (lt : i < length slots) (made : GivenAtoms) (so_far : made ≡ table_of held (take i slots)) where
  next_slot : take (i + 1) slots ≡ take i slots ++ slice_index slots i ∷ []
  next_slot = take_more slots i 0 lt

  pub copied_none : atom_in held (slice_index slots i) ≡ None → without_atom made ≡ table_of held (take (i + 1) slots)
  copied_none is = ap without_atom so_far ∙ sym (ap (table_of held) next_slot ∙ with_none held (take i slots) (slice_index slots i) is)

  pub copied_some : (a : Atom ℕ) → atom_in held (slice_index slots i) ≡ Some a → with_atom a made ≡ table_of held (take (i + 1) slots)
  copied_some a is = ap (with_atom a) so_far ∙ sym (ap (table_of held) next_slot ∙ with_some held (take i slots) (slice_index slots i) a is)

module _ (held : Held) (free slots : List ℕ) (t : IsTable held free slots) where
  fits : length (held_in held slots) ≤ 4294967295
  fits = let within : length slots ≤ 4294967295 = t.within in omega (arith, length-map slots (atom_in held))

  -- a look-up in the slots is one in the entries
  pub seen : (l i : ℕ) → IsSlotOf l i → atom_at (entries_from 1 (held_in held slots)) l ≡ seen_in held (slice_get slots i)
  seen l i at = found (held_in held slots) l i at fits ∙ ap option_flatten (slice_get-map (atom_in held) slots i)

  pub unseen : (l i : ℕ) → IsSlotOf l i → length slots ≤ i → atom_at (entries_from 1 (held_in held slots)) l ≡ None
  unseen l i at h = seen l i at ∙ ap (seen_in held) (slice_get_past slots i h)

  -- a label that has an atom has a slot
  pub slot_given : (l i : ℕ) (a : Atom ℕ) → IsSlotOf l i → atom_at (entries_from 1 (held_in held slots)) l ≡ Some a → i < length slots
  slot_given l i a at is = elim (cases_lt i (length slots)) [
    | inl lt ↦ lt
    | inr past ↦ absurd (let none = unseen l i at past in cc)
  ]

-- ---- how many atoms there are, block by block

one_here : (label k : ℕ) → label / 64 ≡ k → one_in label k ≡ 1
one_here label k e = grind (arith, nat_tests)

one_elsewhere : (label k : ℕ) → (label / 64 ≡ k → ⊥) → one_in label k ≡ 0
one_elsewhere label k d = grind (arith, nat_tests, d)

one_at_most : (label k : ℕ) → one_in label k ≤ 1
one_at_most label k = grind (arith, nat_tests)

-- no more than there are labels
at_most_all : (label k : ℕ) (xs : Labelled) → atoms_in label k xs ≤ length xs
at_most_all label k [] = omega arith
at_most_all label k (None ∷ xs) = omega (arith, at_most_all (label + 1) k xs)
at_most_all label k (Some a ∷ xs) = omega (arith, at_most_all (label + 1) k xs, one_at_most label k)

-- none in a block that no label has come to
none_yet : (label k : ℕ) (xs : Labelled) → label + length xs ≤ 64 * k → atoms_in label k xs ≡ 0
none_yet label k [] h = refl
none_yet label k (None ∷ xs) h = none_yet (label + 1) k xs (omega arith)
none_yet label k (Some a ∷ xs) h = omega (arith, one_elsewhere label k (λ e. absurd (omega (arith, e))), none_yet (label + 1) k xs (omega arith))

pushed_none : (label k : ℕ) (xs : Labelled) → atoms_in label k (xs ++ None ∷ []) ≡ atoms_in label k xs
pushed_none label k [] = refl
pushed_none label k (None ∷ xs) = pushed_none (label + 1) k xs
pushed_none label k (Some a ∷ xs) = ap (λ n. one_in label k + n) (pushed_none (label + 1) k xs)

pushed_some : (label l k : ℕ) (a : Atom ℕ) (xs : Labelled) → l ≡ label + length xs → atoms_in label k (xs ++ Some a ∷ []) ≡ atoms_in label k xs + one_in l k
pushed_some label l k a [] e = ap (λ n. one_in n k + 0) (let same : label ≡ l = omega arith in same) ∙ (omega arith)
pushed_some label l k a (None ∷ xs) e = pushed_some (label + 1) l k a xs (omega arith)
pushed_some label l k a (Some b ∷ xs) e = (let rest = pushed_some (label + 1) l k a xs (omega arith) in omega (arith, rest))

emptied_at : (label l k i : ℕ) (a : Atom ℕ) (xs : Labelled) → l ≡ label + i → slice_get xs i ≡ Some (Some a) → atoms_in label k (slice_set xs i None) + one_in l k ≡ atoms_in label k xs
emptied_at label l k i a [] e h = absurd (cc)
emptied_at label l k zero a (None ∷ xs) e h = absurd (cc)
emptied_at label l k zero a (Some b ∷ xs) e h = (let same : one_in l k ≡ one_in label k = ap (λ n. one_in n k) (let s : l ≡ label = omega arith in s) in omega (arith, same))
emptied_at label l k (suc i) a (None ∷ xs) e h = emptied_at (label + 1) l k i a xs (omega arith) h
emptied_at label l k (suc i) a (Some b ∷ xs) e h = (let rest = emptied_at (label + 1) l k i a xs (omega arith) h in omega (arith, rest))

-- labels whose blocks have no atom are passed over
pub passed : (n label end : ℕ) (xs : Labelled) → ((k : ℕ) → label / 64 ≤ k → k < end → atoms_in label k xs ≡ 0) → label + n ≤ end * 64 → entries_from (label + n) (drop n xs) ≡ entries_from label xs
passed zero label end xs none h = ap (λ l. entries_from l xs) (let e : label + 0 ≡ label = omega arith in e)
passed (suc n) label end [] none h = refl
passed (suc n) label end (None ∷ xs) none h =
    ap (λ l. entries_from l (drop n xs)) (let e : label + suc n ≡ label + 1 + n = omega arith in e)
    ∙ passed n (label + 1) end xs (λ k from to. none k (omega arith) to) (omega arith)
passed (suc n) label end (Some a ∷ xs) none h = absurd (omega (arith, one_here label (label / 64) refl, none (label / 64) (omega arith) (omega arith)))

-- and what is left has no more atoms
fewer_left : (n label k : ℕ) (xs : Labelled) → atoms_in label k xs ≡ 0 → atoms_in (label + n) k (drop n xs) ≡ 0
fewer_left zero label k xs h = ap (λ l. atoms_in l k xs) (let e : label + 0 ≡ label = omega arith in e) ∙ h
fewer_left (suc n) label k [] h = refl
fewer_left (suc n) label k (None ∷ xs) h = ap (λ l. atoms_in l k (drop n xs)) (let e : label + suc n ≡ label + 1 + n = omega arith in e) ∙ fewer_left n (label + 1) k xs h
fewer_left (suc n) label k (Some a ∷ xs) h =
    ap (λ l. atoms_in l k (drop n xs)) (let e : label + suc n ≡ label + 1 + n = omega arith in e)
    ∙ fewer_left n (label + 1) k xs (let all : one_in label k + atoms_in (label + 1) k xs ≡ 0 = h in omega (arith, all))

pub still_empty : (n label : ℕ) (xs : Labelled) (ns : List ℕ) → AreEmptyAtNone label xs ns → AreEmptyAtNone (label + n) (drop n xs) ns
still_empty n label xs ns h = record { empty = λ k lt none. fewer_left n label k xs (h.empty k lt none) }

-- ---- the counts

pub empty_at_none : (xs : Labelled) (ns : List ℕ) → AreCounts xs ns → AreEmptyAtNone 1 xs ns
empty_at_none xs ns h = record { empty = λ k lt none. sym (h.each k lt) ∙ none }

none_ahead : (xs : Labelled) (ns : List ℕ) → AreCounts xs ns → atoms_in 1 (length ns) xs ≡ 0
none_ahead [] ns h = refl
none_ahead (x ∷ xs) ns h = none_yet 1 (length ns) (x ∷ xs) (let was : length (x ∷ xs) < 64 * length ns = h.within (omega arith) in omega arith)

-- a block that no label has come to is counted
pub counts_begun : (xs : Labelled) (ns : List ℕ) → AreCounts xs ns → AreCounts xs (ns ++ 0 ∷ [])
counts_begun xs ns h =
    let more = length-append ns (0 ∷ []) in
    record {
      within = λ one. (let was = h.within one in omega (arith, was, more));
      each = λ k lt. elim (cases_lt k (length ns)) [
        | inl less ↦ get_or_append_left ns (0 ∷ []) 0 k less ∙ h.each k less
        | inr up ↦ let last : k ≡ length ns = omega (arith, up, lt, more) in
            ap (slice_index (ns ++ 0 ∷ [])) last ∙ get_or-append_seam ns 0 [] 0 ∙ sym (ap (λ (n : ℕ). atoms_in 1 n xs) last ∙ none_ahead xs ns h)
      ];
    }

pub counts_skipped : (xs : Labelled) (ns : List ℕ) → AreCounts xs ns → length xs + 1 < 64 * length ns → AreCounts (xs ++ None ∷ []) ns
counts_skipped xs ns h room = record {
  within = λ one. omega (arith, room, length-append xs (None ∷ []));
  each = λ k lt. h.each k lt ∙ sym (pushed_none 1 k xs);
}

-- another count in the block of a label
counted : (xs ys : Labelled) (ns : List ℕ) (i n l : ℕ) → AreCounts xs ns → i ≡ l / 64 → length ys < 64 * length ns → ((k : ℕ) → k < length ns → one_in l k ≡ 1 → k ≡ i → n ≡ atoms_in 1 k ys)
    → ((k : ℕ) → one_in l k ≡ 0 → atoms_in 1 k xs ≡ atoms_in 1 k ys) → AreCounts ys (slice_set ns i n)
counted xs ys ns i n l h at within here elsewhere = record {
  within = λ one. omega (arith, within, length-set ns i n);
  each = λ k lt.
      let inside : k < length ns = omega (arith, lt, length-set ns i n) in
      elim (cases_eq k i) [
        | inl e ↦ ap (slice_index (slice_set ns i n)) e ∙ get_or-set_same ns i n 0 (omega (arith, e, inside)) ∙ here k inside (one_here l k (sym at ∙ sym e)) e
        | inr d ↦ get_or-set_other ns i k n 0 d ∙ h.each k inside ∙ elsewhere k (one_elsewhere l k (λ e. d (sym e ∙ sym at)))
      ];
}

pub counts_filled : (xs : Labelled) (ns : List ℕ) (a : Atom ℕ) (i : ℕ) → AreCounts xs ns → length xs + 1 < 64 * length ns → i ≡ (length xs + 1) / 64 → AreCounts (xs ++ Some a ∷ []) (slice_set ns i (slice_index ns i + 1))
counts_filled xs ns a i h room at =
    let more = λ (k : ℕ). pushed_some 1 (length xs + 1) k a xs (omega arith) in
    counted xs (xs ++ Some a ∷ []) ns i (slice_index ns i + 1) (length xs + 1) h at (omega (arith, room, length-append xs (Some a ∷ [])))
    (λ k lt one e. omega (arith, ap (slice_index ns) e, h.each k lt, one, more k)) (λ k none. omega (arith, none, more k))

pub counts_emptied : (xs : Labelled) (ns : List ℕ) (a : Atom ℕ) (l i j : ℕ) → AreCounts xs ns → slice_get xs i ≡ Some (Some a) → l ≡ i + 1 → j ≡ l / 64 → i < length xs → AreCounts (slice_set xs i None) (slice_set ns j (slice_index ns j - 1))
counts_emptied xs ns a l i j h there label at inside =
    let less = λ (k : ℕ). emptied_at 1 l k i a xs (omega arith) there in
    counted xs (slice_set xs i None) ns j (slice_index ns j - 1) l h at (let was = h.within (omega arith) in omega (arith, was, length-set xs i None))
    (λ k lt one e. omega (arith, ap (slice_index ns) e, h.each k lt, one, less k)) (λ k none. omega (arith, none, less k))

-- the block of a label that was given is counted, with the atom
pub is_counted : (xs : Labelled) (ns : List ℕ) (i j : ℕ) → AreCounts xs ns → i < length xs → j ≡ (i + 1) / 64 → j < length ns
is_counted xs ns i j h inside at = let was = h.within (omega arith) in omega (arith, was)

pub counts_one : (xs : Labelled) (ns : List ℕ) (a : Atom ℕ) (i j : ℕ) → AreCounts xs ns → slice_get xs i ≡ Some (Some a) → i < length xs → j ≡ (i + 1) / 64 → 1 ≤ slice_index ns j
counts_one xs ns a i j h there inside at = omega (arith, h.each j (is_counted xs ns i j h inside at), one_here (i + 1) j (sym at), emptied_at 1 (i + 1) j i a xs (omega arith) there)

pub count_fits : (xs : Labelled) (ns : List ℕ) (k : ℕ) → AreCounts xs ns → k < length ns → slice_index ns k ≤ length xs
count_fits xs ns k h lt = omega (arith, h.each k lt, at_most_all 1 k xs)

pub count_grows : (xs : Labelled) (ns : List ℕ) (i n : ℕ) → AreCounts xs ns → length xs + 1 < 64 * length ns → i ≡ (length xs + 1) / 64 → n ≡ get_or ns i n → n ≤ length xs
count_grows xs ns i n h room at read =
    let inside : i < length ns = omega arith in
    omega (arith, read ∙ get_or_default_zero ns i n inside, count_fits xs ns i h inside)

-- ---- a slot that is written

all_at : {X : Type 0} (P : X → Type 0) (xs : List X) (i : ℕ) (x : X) → slice_get xs i ≡ Some x → AllByRecursion P xs → P x
all_at P [] i x e h = absurd (cc)
all_at P (y ∷ ys) zero x e h = let same : y ≡ x = cc in subst P same h.0
all_at P (y ∷ ys) (suc i) x e h = all_at P ys i x e h.1

all_set : {X : Type 0} (P : X → Type 0) (xs : List X) (i : ℕ) (x : X) → P x → AllByRecursion P xs → AllByRecursion P (slice_set xs i x)
all_set P xs i x p h = recursion_from_All P (slice_set xs i x) (All-set P xs i x p (All-from_recursion P xs h))

module _ (old new : Held) (k : ℕ) (others : (other : ℕ) → other ≢ k → atom_in new other ≡ atom_in old other) where
  -- the other ones keep what they have
  held_same : (slots : List ℕ) → AllByRecursion (λ s. s ≢ k) slots → held_in new slots ≡ held_in old slots
  held_same [] h = refl
  held_same (s ∷ slots) h = ap₂ (λ x (xs : Labelled). x ∷ xs) (others s h.0) (held_same slots h.1)

-- with no fewer slots, each is its own as before
module _ (old new : Held) (more : length old ≤ length new) where
  still_there : (s : ℕ) → s < length old → s < length new
  still_there s lt = omega (arith, lt, more)

  apart_more : (slots : List ℕ) → AreApart old slots → AreApart new slots
  apart_more [] a = tt
  apart_more (s ∷ slots) a = (elim a.0 [ inl e ↦ inl e | inr o ↦ inr (record { there = still_there s o.there; own = o.own }) ], apart_more slots a.1)

-- a slot that there is differs from that of a label without an atom
not_there : (held : Held) (s : ℕ) → length held ≤ no_slot → s < length held → no_slot ≢ s
not_there held s fits lt = λ same. omega (arith, same, fits, lt)

none_past : (held : Held) → length held ≤ no_slot → atom_in held no_slot ≡ None
none_past held fits = slice_get_past held no_slot fits

-- the slot of a label is there
pub slot_there : (held : Held) (slots : List ℕ) (i k : ℕ) → AreApart held slots → slice_get slots i ≡ Some k → k ≢ no_slot → k < length held
slot_there held [] i k a at is = absurd (cc)
slot_there held (s ∷ slots) zero k a at is = (let same : s ≡ k = cc in elim a.0 [ inl none ↦ absurd (is (sym same ∙ none)) | inr o ↦ subst (λ z. z < length held) same o.there ])
slot_there held (s ∷ slots) (suc i) k a at is = slot_there held slots i k a.1 at is

-- one slot more is that of no label
past_all : (held : Held) (slots : List ℕ) → length held < no_slot → AreApart held slots → AllByRecursion (λ s. s ≢ length held) slots
past_all held [] lt a = tt
past_all held (s ∷ slots) lt a = (elim a.0 [ inl e ↦ λ same. omega (arith, e, same, lt) | inr o ↦ λ same. (let was : s < length held = o.there in omega (arith, was, same)) ], past_all held slots lt a.1)

-- one label more, without a slot and with one
apart_skipped : (held : Held) (slots : List ℕ) → length held ≤ no_slot → AreApart held slots → AreApart held (slots ++ no_slot ∷ [])
apart_skipped held [] fits a = (inl refl, tt)
apart_skipped held (s ∷ slots) fits a = (
  elim a.0 [
    | inl e ↦ inl e
    | inr o ↦ inr (record { there = o.there; own = all-push (λ other. other ≢ s) slots no_slot o.own (not_there held s fits o.there) })
  ],
  apart_skipped held slots fits a.1,
)

apart_filled : (held : Held) (k : ℕ) (slots : List ℕ) → k < length held → AllByRecursion (λ s. s ≢ k) slots → AreApart held slots → AreApart held (slots ++ k ∷ [])
apart_filled held k [] there own a = (inr (record { there = there; own = tt }), tt)
apart_filled held k (s ∷ slots) there own a = (
  elim a.0 [
    | inl e ↦ inl e
    | inr o ↦ inr (record { there = o.there; own = all-push (λ other. other ≢ s) slots k o.own (λ same. own.0 (sym same)) })
  ],
  apart_filled held k slots there own.1 a.1,
)

-- ---- free slots

all_both : {X : Type 0} (P Q R : X → Type 0) → ((x : X) → P x → Q x → R x) → (xs : List X) → AllByRecursion P xs → AllByRecursion Q xs → AllByRecursion R xs
all_both P Q R f [] p q = tt
all_both P Q R f (x ∷ xs) p q = (f x p.0 q.0, all_both P Q R f xs p.1 q.1)

module _ (old new : Held) (k : ℕ) (others : (other : ℕ) → other ≢ k → atom_in new other ≡ atom_in old other) where
  -- the free slots but this one stay linked
  linked_same : (first : ℕ) (free : List ℕ) → AllByRecursion (λ s. s ≢ k) free → AreLinked old first free → AreLinked new first free
  linked_same first [] h l = l
  linked_same first (s ∷ free) h l = (l.0, l.1, others s h.0 ∙ l.2, linked_same (l.1).name free h.1 l.3)

-- the first free slot is there
pub first_there : (held : Held) (first : ℕ) (free slots : List ℕ) → IsTable held free slots → AreLinked held first free → first ≢ no_slot → first < length held
first_there held first [] slots t l is = absurd (is l)
first_there held first (s ∷ free) slots t l is = subst (λ n. n < length held) (sym l.0) t.unused.0.there

-- ---- an atom more, in a slot that no label had

-- the atoms once it is put there, with the slots that are still free
pub record IsFilled (old new : Held) (free left slots : List ℕ) (next k : ℕ) (a : Atom ℕ) : Type 0 where
  pub there : atom_in new k ≡ Some a
  pub others : (other : ℕ) → other ≢ k → atom_in new other ≡ atom_in old other
  pub more : length old ≤ length new
  pub counted : length new + length free ≡ length old + length left + 1
  pub fits : length new ≤ no_slot
  pub own : AllByRecursion (λ s. s ≢ k) slots
  pub unused : AllByRecursion (λ slot. IsOwnSlot old slot slots) left
  pub differ : AllByRecursion (λ s. s ≢ k) left
  pub once : AreOnce left
  pub linked : AreLinked new next left

set_at : (xs : Held) (k : ℕ) (a : Atom ℕ) → k < length xs → slice_get (slice_set xs k a) k ≡ Some a
set_at xs k a lt = slice_get_read (slice_set xs k a) (length (slice_set xs k a)) k a refl (omega (arith, lt, length-set xs k a)) (sym (get_or-set_same xs k a a lt))

set_elsewhere : (xs : Held) (k other : ℕ) (a : Atom ℕ) → other ≢ k → slice_get (slice_set xs k a) other ≡ slice_get xs other
set_elsewhere [] k other a d = refl
set_elsewhere (x ∷ xs) zero zero a d = absurd (d refl)
set_elsewhere (x ∷ xs) zero (suc other) a d = refl
set_elsewhere (x ∷ xs) (suc k) zero a d = refl
set_elsewhere (x ∷ xs) (suc k) (suc other) a d = set_elsewhere xs k other a (λ e. d (ap suc e))

pushed_last : (xs : Held) (a : Atom ℕ) → slice_get (xs ++ a ∷ []) (length xs) ≡ Some a
pushed_last [] a = refl
pushed_last (x ∷ xs) a = pushed_last xs a

pushed_elsewhere : (xs : Held) (other : ℕ) (a : Atom ℕ) → other ≢ length xs → slice_get (xs ++ a ∷ []) other ≡ slice_get xs other
pushed_elsewhere [] zero a d = absurd (d refl)
pushed_elsewhere [] (suc other) a d = refl
pushed_elsewhere (x ∷ xs) zero a d = refl
pushed_elsewhere (x ∷ xs) (suc other) a d = pushed_elsewhere xs other a (λ e. d (ap suc e))

module _ (old : Held) (slots : List ℕ) (a : Atom ℕ) where
  filled_again : (left : List ℕ) (next k : ℕ) → IsTable old (k ∷ left) slots → AreLinked old next left → IsFilled old (slice_set old k a) (k ∷ left) left slots next k a
  filled_again left next k t linked =
      let size = length-set old k a in
      let others : (other : ℕ) → other ≢ k → atom_in (slice_set old k a) other ≡ atom_in old other = λ other d. set_elsewhere old k other a d in
      record {
        there = set_at old k a t.unused.0.there;
        others = others;
        more = omega (arith, size);
        counted = omega (arith, size);
        fits = omega (arith, size, t.fits);
        own = t.unused.0.own;
        unused = t.unused.1;
        differ = t.once.0;
        once = t.once.1;
        linked = linked_same old (slice_set old k a) k others next left t.once.0 linked;
      }

  filled_more : length slots < no_slot → IsTable old [] slots → IsFilled old (old ++ a ∷ []) [] [] slots no_slot (length old) a
  filled_more room t =
      let size = length-append old (a ∷ []) in
      let all : length old < no_slot = omega (arith, room, t.counted, at_most 1 (held_in old slots), length-map slots (atom_in old)) in
      record {
        there = pushed_last old a;
        others = λ other d. pushed_elsewhere old other a d;
        more = omega (arith, size);
        counted = omega (arith, size);
        fits = omega (arith, size, all);
        own = past_all old slots all t.apart;
        unused = tt;
        differ = tt;
        once = tt;
        linked = refl;
      }

  -- whether a slot was free or not
  pub filled_by : (new : Held) (free : List ℕ) (first next k : ℕ) → length slots < no_slot → IsTable old free slots → AreLinked old first free
      → (first ≢ no_slot → (k ≡ first) × (new ≡ slice_set old k a))
      → ((empty : Atom ℕ) → atom_in old first ≡ Some empty → next ≡ empty.name)
      → (first ≡ no_slot → (next ≡ no_slot) × (k ≡ length old) × (new ≡ old ++ a ∷ []))
      → IsFilled old new free (drop 1 free) slots next k a
  filled_by new [] first next k room t linked again follows more =
      let w = more linked in
      subst (λ n. IsFilled old n [] [] slots next k a) (sym w.2) (subst (λ i. IsFilled old (old ++ a ∷ []) [] [] slots next i a) (sym w.1)
      (subst (λ n. IsFilled old (old ++ a ∷ []) [] [] slots n (length old) a) (sym w.0) (filled_more room t)))
  filled_by new (slot ∷ left) first next k room t linked again follows more =
      let w = again (λ none. not_there old slot t.fits t.unused.0.there (sym none ∙ linked.0)) in
      let is : slot ≡ k = sym (w.0 ∙ linked.0) in
      let follow : next ≡ (linked.1).name = follows linked.1 (ap (atom_in old) linked.0 ∙ linked.2) in
      subst (λ s. IsFilled old new (s ∷ left) left slots next k a) (sym is) (subst (λ n. IsFilled old n (k ∷ left) left slots next k a) (sym w.1)
      (filled_again left next k (subst (λ s. IsTable old (s ∷ left) slots) is t) (subst (λ n. AreLinked old n left) (sym follow) linked.3)))

-- and with an empty atom in place of that of a slot, which is free then
pub record IsEmptied (old new : Held) (k : ℕ) (a empty : Atom ℕ) : Type 0 where
  pub there : atom_in old k ≡ Some a
  pub others : (other : ℕ) → other ≢ k → atom_in new other ≡ atom_in old other
  pub left : atom_in new k ≡ Some empty
  pub same : length new ≡ length old

pub emptied_by : (old : Held) (k : ℕ) (a empty : Atom ℕ) → k < length old → a ≡ get_or old k a → IsEmptied old (slice_set old k empty) k a empty
emptied_by old k a empty lt read = record {
  there = slice_get_read old (length old) k a refl lt read;
  others = λ other d. set_elsewhere old k other empty d;
  left = set_at old k empty lt;
  same = length-set old k empty;
}

module _ (old new : Held) (free slots : List ℕ) (t : IsTable old free slots) where
  module _ (left : List ℕ) (next k : ℕ) (a : Atom ℕ) (f : IsFilled old new free left slots next k a) where
    same : held_in new slots ≡ held_in old slots
    same = held_same old new k f.others slots f.own

    filled_held : held_in new (slots ++ k ∷ []) ≡ held_in old slots ++ Some a ∷ []
    filled_held = map_push (atom_in new) slots k ∙ ap₂ (λ (xs : Labelled) x. xs ++ x ∷ []) same f.there

    pub filled : table_of new (slots ++ k ∷ []) ≡ with_atom a (table_of old slots)
    filled = with_some new slots k a f.there ∙ ap (λ xs. with_atom a (given (entries_from 1 xs) (length slots + 1))) same

    filled_table : length slots + 1 ≤ 4294967295 → IsTable new left (slots ++ k ∷ [])
    filled_table h = record {
      counted = (let more = ap (λ (s : GivenAtoms). length s.entries) filled in omega (arith, t.counted, more, f.counted, length-append (entries_from 1 (held_in old slots)) ((length slots + 1, a) ∷ [])));
      within = omega (arith, length-append slots (k ∷ []));
      fits = f.fits;
      apart = apart_filled new k slots (slice_get_within new k a f.there) f.own (apart_more old new f.more slots t.apart);
      unused = all_both _ _ (λ slot. IsOwnSlot new slot (slots ++ k ∷ []))
          (λ slot o d. record { there = still_there old new f.more slot o.there; own = all-push (λ s. s ≢ slot) slots k o.own (λ same. d (sym same)) })
          left f.unused f.differ;
      once = f.once;
    }

    pub filled_all : (number : ℕ) → number ≡ length (entries_from 1 (held_in old slots)) → length slots + 1 ≤ 4294967295 → HasTable new next (number + 1) (slots ++ k ∷ [])
    filled_all number count h = record {
      free = left;
      table = filled_table h;
      linked = f.linked;
      count = (let more = ap (λ (s : GivenAtoms). length s.entries) filled in omega (arith, count, more, length-append (entries_from 1 (held_in old slots)) ((length slots + 1, a) ∷ [])));
    }

    pub filled_counts : (ns : List ℕ) (i n : ℕ) → AreCounts (held_in old slots) ns → length slots + 1 < 64 * length ns → i ≡ (length slots + 1) / 64 → n ≡ get_or ns i n → AreCounts (held_in new (slots ++ k ∷ [])) (slice_set ns i (n + 1))
    filled_counts ns i n h room at read =
        let size = length-map slots (atom_in old) in
        subst (λ xs. AreCounts xs (slice_set ns i (n + 1))) (sym filled_held)
        (rw (read ∙ get_or_default_zero ns i n (omega arith)) (counts_filled (held_in old slots) ns a i h (omega arith) (omega arith)))

  module _ (k i : ℕ) (a empty : Atom ℕ) (e : IsEmptied old new k a empty) (slot : slice_get slots i ≡ Some k) where
    no_less : length old ≤ length new
    no_less = omega (arith, e.same)

    still_none : atom_in new no_slot ≡ None
    still_none = none_past new (omega (arith, e.same, t.fits))

    some_slot : k < no_slot
    some_slot = let lt : k < length old = slice_get_within old k a e.there in omega (arith, lt, t.fits)

    -- the slots once that label has none: what they hold, and that each is one label's own
    record AreEmptied (j : ℕ) (ss : List ℕ) : Type 0 where
      pub held : held_in new (slice_set ss j no_slot) ≡ slice_set (held_in old ss) j None
      pub apart : AreApart new (slice_set ss j no_slot)
      pub own : AllByRecursion (λ s. s ≢ k) (slice_set ss j no_slot)

    empties : (i : ℕ) (ss : List ℕ) → slice_get ss i ≡ Some k → AreApart old ss → AreEmptied i ss
    empties i [] at h = absurd (cc)
    empties zero (s ∷ ss) at h =
        let same : s ≡ k = cc in
        let rest : AllByRecursion (λ other. other ≢ k) ss = elim h.0 [
          | inl none ↦ absurd (omega (arith, none, same, some_slot))
          | inr o ↦ subst (λ z. AllByRecursion (λ other. other ≢ z) ss) same o.own
        ] in
        record {
          held = ap₂ (λ x (xs : Labelled). x ∷ xs) still_none (held_same old new k e.others ss rest);
          apart = (inl refl, apart_more old new no_less ss h.1);
          own = ((λ same. omega (arith, same, some_slot)), rest);
        }
    empties (suc i) (s ∷ ss) at h =
        let rest = empties i ss at h.1 in
        let differs : s ≢ k = elim h.0 [
          | inl none ↦ λ same. omega (arith, none, same, some_slot)
          | inr o ↦ λ same. all_at (λ other. other ≢ s) ss i k at o.own (sym same)
        ] in
        record {
          held = ap₂ (λ x (xs : Labelled). x ∷ xs) (e.others s differs) rest.held;
          apart = (
            elim h.0 [
              | inl none ↦ inl none
              | inr o ↦ inr (record { there = still_there old new no_less s o.there; own = all_set (λ other. other ≢ s) ss i no_slot (not_there old s t.fits o.there) o.own })
            ],
            rest.apart,
          );
          own = (differs, rest.own);
        }

    all_emptied : AreEmptied i slots
    all_emptied = empties i slots slot t.apart

    inside : i < length slots
    inside = slice_get_within slots i k slot

    there : slice_get (held_in old slots) i ≡ Some (Some a)
    there = slice_get-map (atom_in old) slots i ∙ ap (option_map (atom_in old)) slot ∙ ap Some e.there

    -- the label of an emptied slot leaves the entries
    pub emptied : (l : ℕ) → IsSlotOf l i → table_of new (slice_set slots i no_slot) ≡ without_label l (table_of old slots)
    emptied l at = both _ _ _ _ (ap (entries_from 1) all_emptied.held ∙ dropped_at 1 i l (held_in old slots) (let u : i + 1 ≡ l = at.own label_is in omega arith)) (ap (λ n. n + 1) (length-set slots i no_slot))
      where
        label_is : 1 ≤ l
        label_is = elim (cases_eq l 0) [ inl z ↦ absurd (let u : 4294967295 ≤ i = at.none z in omega (arith, inside, t.within)) | inr d ↦ omega arith ]

    -- so there was one
    less : length (entries_from 1 (held_in new (slice_set slots i no_slot))) + 1 ≡ length (entries_from 1 (held_in old slots))
    less = omega (arith, ap (λ xs. length (entries_from 1 xs)) all_emptied.held, fewer 1 i (held_in old slots) a there)

    pub some_there : 1 ≤ length (entries_from 1 (held_in old slots))
    some_there = omega (arith, less)

    differ : AllByRecursion (λ s. s ≢ k) free
    differ = all_map (λ s. IsOwnSlot old s slots) (λ s. s ≢ k) free (λ s o same. all_at (λ other. other ≢ s) slots i k slot o.own (sym same)) t.unused

    emptied_table : IsTable new (k ∷ free) (slice_set slots i no_slot)
    emptied_table = record {
      counted = omega (arith, e.same, t.counted, less);
      within = omega (arith, t.within, length-set slots i no_slot);
      fits = omega (arith, e.same, t.fits);
      apart = all_emptied.apart;
      unused = (
        record { there = still_there old new no_less k (slice_get_within old k a e.there); own = all_emptied.own },
        all_map (λ s. IsOwnSlot old s slots) (λ s. IsOwnSlot new s (slice_set slots i no_slot)) free
            (λ s o. record { there = still_there old new no_less s o.there; own = all_set (λ other. other ≢ s) slots i no_slot (not_there old s t.fits o.there) o.own }) t.unused,
      );
      once = (differ, t.once);
    }

    pub emptied_all : (first number : ℕ) → empty.name ≡ first → AreLinked old first free → number ≡ length (entries_from 1 (held_in old slots)) → HasTable new k (number - 1) (slice_set slots i no_slot)
    emptied_all first number name linked count = record {
      free = k ∷ free;
      table = emptied_table;
      linked = (refl, empty, e.left, subst (λ n. AreLinked new n free) (sym name) (linked_same old new k e.others first free differ linked));
      count = omega (arith, count, less);
    }

    module _ (ns : List ℕ) (n : ℕ) (h : AreCounts (held_in old slots) ns) (read : n ≡ get_or ns ((i + 1) / 64) n) where
      within : i < length (held_in old slots)
      within = omega (arith, inside, length-map slots (atom_in old))

      count : n ≡ slice_index ns ((i + 1) / 64)
      count = read ∙ get_or_default_zero ns ((i + 1) / 64) n (is_counted (held_in old slots) ns i ((i + 1) / 64) h within refl)

      pub emptied_counts : AreCounts (held_in new (slice_set slots i no_slot)) (slice_set ns ((i + 1) / 64) (n - 1))
      emptied_counts = subst (λ xs. AreCounts xs (slice_set ns ((i + 1) / 64) (n - 1))) (sym all_emptied.held)
          (rw count (counts_emptied (held_in old slots) ns a (i + 1) i ((i + 1) / 64) h there refl refl within))

      pub emptied_one : 1 ≤ n
      emptied_one = omega (arith, count, counts_one (held_in old slots) ns a i ((i + 1) / 64) h there within refl)

module _ (held : Held) (free slots : List ℕ) (t : IsTable held free slots) where
  skipped_held : held_in held (slots ++ no_slot ∷ []) ≡ held_in held slots ++ None ∷ []
  skipped_held = map_push (atom_in held) slots no_slot ∙ ap (λ x. held_in held slots ++ x ∷ []) (none_past held t.fits)

  pub skipped : table_of held (slots ++ no_slot ∷ []) ≡ without_atom (table_of held slots)
  skipped = with_none held slots no_slot (none_past held t.fits)

  skipped_table : length slots + 1 ≤ 4294967295 → IsTable held free (slots ++ no_slot ∷ [])
  skipped_table h = record {
    counted = ap (λ (s : GivenAtoms). length s.entries + length free) skipped ∙ t.counted;
    within = omega (arith, length-append slots (no_slot ∷ []));
    fits = t.fits;
    apart = apart_skipped held slots t.fits t.apart;
    unused = all_map (λ s. IsOwnSlot held s slots) (λ s. IsOwnSlot held s (slots ++ no_slot ∷ [])) free
        (λ s o. record { there = o.there; own = all-push (λ other. other ≢ s) slots no_slot o.own (not_there held s t.fits o.there) }) t.unused;
    once = t.once;
  }

  pub skipped_all : (first number : ℕ) → AreLinked held first free → number ≡ length (entries_from 1 (held_in held slots)) → length slots + 1 ≤ 4294967295 → HasTable held first number (slots ++ no_slot ∷ [])
  skipped_all first number linked count h = record {
    free = free;
    table = skipped_table h;
    linked = linked;
    count = count ∙ sym (ap (λ (s : GivenAtoms). length s.entries) skipped);
  }

  pub skipped_counts : (ns : List ℕ) → AreCounts (held_in held slots) ns → length slots + 1 < 64 * length ns → AreCounts (held_in held (slots ++ no_slot ∷ [])) ns
  skipped_counts ns h room = subst (λ xs. AreCounts xs ns) (sym skipped_held) (counts_skipped (held_in held slots) ns h (omega (arith, length-map slots (atom_in held))))

-- ---- labels in front that are passed over

module _ (held : Held) (slots : List ℕ) (n label : ℕ) where
  left_behind : held_in held (take (length slots - n) (drop n slots)) ≡ drop n (held_in held slots)
  left_behind = ap (held_in held) (take_rest slots n) ∙ sym (drop-map (atom_in held) n slots)

  pub left_empty : (ns : List ℕ) → AreEmptyAtNone label (held_in held slots) ns → AreEmptyAtNone (label + n) (held_in held (take (length slots - n) (drop n slots))) ns
  left_empty ns h = subst (λ (xs : Labelled). AreEmptyAtNone (label + n) xs ns) (sym left_behind) (still_empty n label (held_in held slots) ns h)

  pub left_same : (ns : List ℕ) (end : ℕ) → AreEmptyAtNone label (held_in held slots) ns → ((k : ℕ) → label / 64 ≤ k → k < end → (k < length ns) × (slice_index ns k ≡ 0)) → n ≤ end * 64 - label → entries_from (label + n) (held_in held (take (length slots - n) (drop n slots))) ≡ entries_from label (held_in held slots)
  left_same ns end h none within = elim (cases_eq n 0) [
    | inl all ↦ ap (entries_from (label + n)) left_behind ∙ ap (λ m. entries_from (label + m) (drop m (held_in held slots))) all ∙ ap (λ l. entries_from l (held_in held slots)) (let e : label + 0 ≡ label = omega arith in e)
    | inr some ↦ ap (entries_from (label + n)) left_behind ∙ passed n label end (held_in held slots) (λ k from to. let is = none k from to in h.empty k is.0 is.1) (omega arith)
  ]
