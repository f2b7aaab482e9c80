-- The items that are read are those of the relation.
use Rattle.std.proofs.Common.{◌≡◌, ◌<◌, ◌≤◌, ℕ, zero, suc, ◌+◌, true, false, cond, List, [], ◌∷◌, length, take, drop, refl, sym, ap, ◌∙◌, arith, length-take, length-drop, ◌++◌, subst, inl, inr, length-append}
use Rattle.std.specs.Prelude.{◌==◌, ◌||◌, ◌⊎◌}
use Rattle.std.proofs.lemmas.Bool.{eqb-true, and_parts, or_parts, false_from_ne_true, cases_Bool, both_ways}
use Rattle.std.proofs.lemmas.List.{drop-drop, nil_from_length, take_all, append-nil, drop_all}
use Rattle.chr_lex.specs.Plain.{is_layout, plain_of}
use Rattle.chr_lex.specs.Items.{Item, is_gap, is_end, before_end, has_end, line_after, lines_after, items, items_of, begins_with_layout, BeginsItem}
use Rattle.std.proofs.Math.Seq.{drop-append_seam}
use Rattle.chr_lex.specs.Cutting.{NoEnd, Items, HasItems, no_more, gap, ended, cut}
use Rattle.chr_lex.proofs.Replaced.{is_plain, are_plain}

point_ends_no_line : (c : ℕ) (cs : List ℕ) (line : ℕ) → is_end c cs ≡ true → line_after c line ≡ line
point_ends_no_line c cs line h = rw (eqb-true c 46 (and_parts (c == 46) (begins_with_layout cs) h).0) refl

item_ends_no_line : (b line : ℕ) → is_gap b ≡ false → line_after b line ≡ line
item_ends_no_line b line h =
    rw (or_parts ((b == 32) || (b == 9) || (b == 13)) (b == 10) (or_parts (is_layout b) (b == 1) h).0).1 refl

items-behind : (bs : List ℕ) (line : ℕ) → items (suc (length (before_end bs))) line bs ≡ items zero (lines_after (before_end bs) line) (drop (suc (length (before_end bs))) bs)
items-behind [] line = refl
items-behind (c ∷ cs) line =
    (elim (is_end c cs) as (λ v. is_end c cs ≡ v → items (suc (length (cond v [] (c ∷ before_end cs)))) line (c ∷ cs) ≡ items zero (lines_after (cond v [] (c ∷ before_end cs)) line) (drop (suc (length (cond v [] (c ∷ before_end cs)))) (c ∷ cs))) [
      | true ↦ λ h. ap (λ (n : ℕ). items zero n cs) (point_ends_no_line c cs line h)
      | false ↦ λ h. items-behind cs (line_after c line)
    ]) refl

items-behind_first : (b : ℕ) (bs : List ℕ) (line : ℕ) → is_gap b ≡ false
    → items (length (before_end (b ∷ bs))) line bs ≡ items zero (lines_after (before_end (b ∷ bs)) line) (drop (length (before_end (b ∷ bs))) bs)
items-behind_first b bs line begins =
    elim (is_end b bs) as (λ v. items (length (cond v [] (b ∷ before_end bs))) line bs ≡ items zero (lines_after (cond v [] (b ∷ before_end bs)) line) (drop (length (cond v [] (b ∷ before_end bs))) bs)) [
      | true ↦ refl
      | false ↦ items-behind bs line ∙ ap (λ (n : ℕ). items zero (lines_after (before_end bs) n) (drop (suc (length (before_end bs))) bs)) (sym (item_ends_no_line b line begins))
    ]

-- an item, and what is read after it
pub item_first : (line : ℕ) (t : List ℕ) → 0 < length t → BeginsItem t
    → items zero line t ≡ record { line = line; bytes = before_end t; ended = has_end t } ∷ items zero (lines_after (before_end t) line) (drop 1 (drop (length (before_end t)) t))
item_first line [] long begins = absurd (omega arith)
item_first line (b ∷ bs) long begins =
    let n = length (before_end (b ∷ bs)) in
    let e : suc n ≡ n + 1 = omega arith in
    let far : drop n bs ≡ drop 1 (drop n (b ∷ bs)) = ap (λ (k : ℕ). drop k (b ∷ bs)) e ∙ sym (drop-drop 1 n (b ∷ bs)) in
    let one : items zero line (b ∷ bs) ≡ record { line = line; bytes = before_end (b ∷ bs); ended = has_end (b ∷ bs) } ∷ items n line bs = rw begins refl in
    one ∙ ap (λ (r : List Item). record { line = line; bytes = before_end (b ∷ bs); ended = has_end (b ∷ bs) } ∷ r)
    (items-behind_first b bs line begins ∙ ap (items zero (lines_after (before_end (b ∷ bs)) line)) far)

-- the item that is before a place, and what is read after that place
item_read : (line n : ℕ) (t text after : List ℕ) → 0 < length t → BeginsItem t → n ≤ length t → take n t ≡ before_end t → text ≡ take n t → after ≡ drop n t
    → items zero line t ≡ record { line = line; bytes = text; ended = has_end t } ∷ items zero (lines_after text line) (drop 1 after)
item_read line n t text after long begins within is text-is after-is =
    let count : length (before_end t) ≡ n = omega (arith, ap length is, length-take n t) in
    let bytes : before_end t ≡ text = sym (text-is ∙ is) in
    item_first line t long begins ∙ rw (count, bytes, ← after-is) refl

-- the item at the end of the text
pub item_last : (line n : ℕ) (t text after : List ℕ) → 0 < length t → BeginsItem t → n ≤ length t → take n t ≡ before_end t → (has_end t ≡ true → n < length t)
    → text ≡ take n t → after ≡ drop n t → length after < 1
    → items zero line t ≡ record { line = line; bytes = text; ended = false } ∷ items zero (lines_after text line) after
item_last line n t text after long begins within is ends text-is after-is none =
    let open_ : has_end t ≡ false = false_from_ne_true (has_end t) (λ h. absurd (omega (arith, ends h, length-drop n t, ap length after-is))) in
    item_read line n t text after long begins within is text-is after-is ∙ rw (open_, nil_from_length after (omega arith)) refl

-- the item before a point
pub item_inner : (line n k : ℕ) (t text after : List ℕ) → 0 < length t → BeginsItem t → n ≤ length t → take n t ≡ before_end t → (n < length t → has_end t ≡ true)
    → text ≡ take n t → after ≡ drop n t → 1 ≤ length after → length after ≤ k + 1
    → items zero line t ≡ record { line = line; bytes = text; ended = true } ∷ items zero (lines_after text line) (take k (drop 1 after))
item_inner line n k t text after long begins within is ends text-is after-is some fits =
    let ended : has_end t ≡ true = ends (omega (arith, length-drop n t, ap length after-is)) in
    item_read line n t text after long begins within is text-is after-is ∙ rw (ended, take_all k (drop 1 after) (omega (arith, length-drop 1 after))) refl

-- ---- what is in the relation is read

no_end_behind : (b : ℕ) (bs rest : List ℕ) → NoEnd (b ∷ bs) rest → NoEnd bs rest
no_end_behind b bs rest none front back e = none (b ∷ front) back (ap (λ (r : List ℕ). b ∷ r) e)

no_end_here : (b : ℕ) (bs rest : List ℕ) → NoEnd (b ∷ bs) rest → is_end b (bs ++ rest) ≡ false
no_end_here b bs rest none =
    false_from_ne_true (is_end b (bs ++ rest)) (λ h.
    let parts = and_parts (b == 46) (begins_with_layout (bs ++ rest)) h in
    none [] bs (ap (λ (c : ℕ). c ∷ bs) (eqb-true b 46 parts.0)) parts.1)

before_past : (bs rest : List ℕ) → NoEnd bs rest → before_end (bs ++ rest) ≡ bs ++ before_end rest
before_past [] rest none = refl
before_past (b ∷ bs) rest none = rw (no_end_here b bs rest none) (ap (λ (r : List ℕ). b ∷ r) (before_past bs rest (no_end_behind b bs rest none)))

has_past : (bs rest : List ℕ) → NoEnd bs rest → has_end (bs ++ rest) ≡ has_end rest
has_past [] rest none = refl
has_past (b ∷ bs) rest none = rw (no_end_here b bs rest none) (has_past bs rest (no_end_behind b bs rest none))

ended_read : (line : ℕ) (inner rest : List ℕ) (es : List Item) → BeginsItem (inner ++ 46 ∷ rest) → NoEnd inner (46 ∷ rest) → begins_with_layout rest ≡ true
    → items zero (lines_after inner line) rest ≡ es → items zero line (inner ++ 46 ∷ rest) ≡ record { line = line; bytes = inner; ended = true } ∷ es
ended_read line inner rest es begins none layout more =
    let t = inner ++ 46 ∷ rest in
    let point : before_end (46 ∷ rest) ≡ [] = rw layout refl in
    let before : before_end t ≡ inner = before_past inner (46 ∷ rest) none ∙ ap (λ (r : List ℕ). inner ++ r) point ∙ append-nil inner in
    let whole : has_end t ≡ true = has_past inner (46 ∷ rest) none ∙ rw layout refl in
    item_first line t (omega (arith, length-append inner (46 ∷ rest))) begins ∙ rw (before, whole, drop-append_seam inner (46 ∷ rest), more) refl

cut_read : (line b : ℕ) (bs : List ℕ) → is_gap b ≡ false → NoEnd (b ∷ bs) [] → items zero line (b ∷ bs) ≡ record { line = line; bytes = b ∷ bs; ended = false } ∷ []
cut_read line b bs begins none =
    let t = b ∷ bs in
    let nil : t ++ [] ≡ t = append-nil t in
    let before : before_end t ≡ t = ap before_end (sym nil) ∙ before_past t [] none ∙ nil in
    let open_ : has_end t ≡ false = ap has_end (sym nil) ∙ has_past t [] none in
    let gone : drop (length t) t ≡ [] = drop_all (length t) t (omega arith) in
    item_first line t (omega arith) begins ∙ rw (before, open_, gone) refl

pub are_read : (line : ℕ) (bs : List ℕ) (es : List Item) → Items line bs es → items zero line bs ≡ es
are_read _ _ _ (no_more line) = refl
are_read _ _ _ (gap line b bs es h more) = rw h (are_read (line_after b line) bs es more)
are_read _ _ _ (ended line inner rest es begins none layout more) = ended_read line inner rest es begins none layout (are_read (lines_after inner line) rest es more)
are_read _ _ _ (cut line b bs begins none) = cut_read line b bs begins none

-- ---- what is read is in the relation

no_end_in_nothing : (rest : List ℕ) → NoEnd [] rest
no_end_in_nothing rest front back e layout = omega (arith, ap length e, length-append front (46 ∷ back))

no_end_cons : (b : ℕ) (bs rest : List ℕ) → is_end b (bs ++ rest) ≡ false → NoEnd bs rest → NoEnd (b ∷ bs) rest
no_end_cons b bs rest here none [] back e layout = let head : b ≡ 46 = cc in let tail : bs ≡ back = cc in both_ways _ (rw (head, tail) at here) layout
no_end_cons b bs rest here none (c ∷ front) back e layout = none front back (ap (drop 1) e) layout

record Ended (t : List ℕ) : Type 0 where
  inner : List ℕ
  rest : List ℕ
  split : inner ++ 46 ∷ rest ≡ t
  none : NoEnd inner (46 ∷ rest)
  layout : begins_with_layout rest ≡ true

first_end : (t : List ℕ) → Ended t ⊎ NoEnd t []
first_end [] = inr (no_end_in_nothing [])
first_end (b ∷ bs) =
    elim (cases_Bool (is_end b bs)) [
      | inl h ↦
          let parts = and_parts (b == 46) (begins_with_layout bs) h in
          inl record { inner = []; rest = bs; split = ap (λ (c : ℕ). c ∷ bs) (sym (eqb-true b 46 parts.0)); none = no_end_in_nothing (46 ∷ bs); layout = parts.1 }
      | inr h ↦ elim (first_end bs) [
        | inl e ↦ inl record { inner = b ∷ e.inner; rest = e.rest; split = ap (λ (r : List ℕ). b ∷ r) e.split; none = no_end_cons b e.inner (46 ∷ e.rest) (ap (is_end b) e.split ∙ h) e.none; layout = e.layout }
        | inr none ↦ inr (no_end_cons b bs [] (ap (is_end b) (append-nil bs) ∙ h) none)
      ]
    ]

every_text : (k line : ℕ) (bs : List ℕ) → length bs ≤ k → (es : List Item) × Items line bs es
every_text k line [] fits = ([], no_more line)
every_text zero line (b ∷ bs) fits = absurd (omega arith)
every_text (suc k) line (b ∷ bs) fits =
    elim (cases_Bool (is_gap b)) [
      | inl h ↦ let more = every_text k (line_after b line) bs (omega arith) in (more.0, gap line b bs more.0 h more.1)
      | inr h ↦ elim (first_end (b ∷ bs)) [
        | inl e ↦
            let more = every_text k (lines_after e.inner line) e.rest (omega (arith, ap length e.split, length-append e.inner (46 ∷ e.rest))) in (
              record { line = line; bytes = e.inner; ended = true } ∷ more.0,
              subst (λ (r : List ℕ). Items line r (record { line = line; bytes = e.inner; ended = true } ∷ more.0)) e.split
                  (ended line e.inner e.rest more.0 (subst BeginsItem (sym e.split) h) e.none e.layout more.1),
            )
        | inr none ↦ (record { line = line; bytes = b ∷ bs; ended = false } ∷ [], cut line b bs h none)
      ]
    ]

pub are_items : (line : ℕ) (bs : List ℕ) (es : List Item) → items zero line bs ≡ es → Items line bs es
are_items line bs es h =
    let some = every_text (length bs) line bs (omega arith) in
    subst (Items line bs) (sym (are_read line bs some.0 some.1) ∙ h) some.1

-- ---- a text, comments and all

pub has_items : (bs : List ℕ) (es : List Item) → items_of bs ≡ es → HasItems bs es
has_items bs es h = record { out = plain_of bs; replaced = is_plain bs (plain_of bs) refl; items = are_items 1 (plain_of bs) es h }

pub items_read : (bs : List ℕ) (es : List Item) → HasItems bs es → items_of bs ≡ es
items_read bs es h = ap (items zero 1) (are_plain bs h.out h.replaced) ∙ are_read 1 h.out es h.items
