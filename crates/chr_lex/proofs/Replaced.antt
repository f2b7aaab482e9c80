-- The text without its comments is that of the relation.
use Rattle.std.proofs.Common.{◌≡◌, ◌≤◌, ◌<◌, ℕ, zero, suc, ◌+◌, true, false, cond, List, [], ◌∷◌, ◌++◌, length, take, drop, refl, sym, ap, ◌∙◌, arith, inl, inr, length-drop, length-append, append_assoc, Bool, subst}
use Rattle.std.specs.Prelude.{◌==◌, ◌||◌, ◌&&◌, ◌⊎◌}
use Rattle.std.specs.List.{take_while, list_all}
use Rattle.std.proofs.lemmas.Bool.{and_parts, cases_Bool, and_from, or_parts, or_from, eqb-true, true≢false, not_from_false, false_from_ne_true}
use Rattle.std.proofs.lemmas.List.{length-take-le, append-nil}
use Rattle.std.proofs.lemmas.List.Filters.{length-filter_both}
use Rattle.chr_lex.specs.Plain.{as_text, first_is, closes_here, closes, before_close, is_within_line, is_line_end, line_ends, plain, plain_of, block}
use Rattle.std.proofs.Math.Seq.{drop-append_seam, drop-append-add}
use Rattle.chr_lex.specs.Comments.{begins_comment, ends_line, NoClose, Plain, nothing, code, to_line_end, closed, unclosed}
use Rattle.chr_lex.proofs.Lexing.{while_over}

pub plain-skip : (skip : ℕ) (bs : List ℕ) → plain skip bs ≡ plain zero (drop skip bs)
plain-skip zero [] = refl
plain-skip (suc skip) [] = refl
plain-skip zero (b ∷ bs) = refl
plain-skip (suc skip) (b ∷ bs) = plain-skip skip bs

some_after : (bs : List ℕ) → first_is 47 bs ≡ true → 1 ≤ length bs
some_after [] h = absurd cc
some_after (b ∷ bs) h = omega arith

-- a comment has room for its end
pub closes_fits : (bs : List ℕ) → closes bs ≡ true → length (before_close bs) + 2 ≤ length bs
closes_fits [] h = absurd cc
closes_fits (b ∷ bs) h =
    (elim (closes_here b bs) as (λ v. closes_here b bs ≡ v → v || closes bs ≡ true → length (cond v [] (b ∷ before_close bs)) + 2 ≤ length (b ∷ bs)) [
      | true ↦ λ e t. omega (arith, some_after bs (and_parts (b == 42) (first_is 47 bs) e).1)
      | false ↦ λ e t. omega (arith, closes_fits bs t)
    ]) refl h

pub line_same : (front out : List ℕ) (first n : ℕ) (bs : List ℕ) → first ≡ 37 → n ≡ length (take_while is_within_line bs) → out ≡ front ++ 32 ∷ []
    → out ++ plain_of (drop n bs) ≡ front ++ plain_of (first ∷ bs)
line_same front out first n bs h is grown =
    rw (h, grown, append_assoc) (ap (λ (r : List ℕ). front ++ 32 ∷ r) (sym (plain-skip n bs) ∙ ap (λ (k : ℕ). plain k bs) is))

-- what is written for a comment by `/*`, n bytes long, and what is read after it
pub block_written : (front out : List ℕ) (n : ℕ) (bs : List ℕ) → 0 < length bs → closes (drop 1 bs) ≡ true → n ≤ length (drop 1 bs) → take n (drop 1 bs) ≡ before_close (drop 1 bs)
    → out ≡ (front ++ 1 ∷ []) ++ line_ends (take n (drop 1 bs))
    → (out ++ plain_of (drop (n + 3) bs) ≡ front ++ block bs) × (n + 3 ≤ length bs) × (length out ≤ length front + (n + 3 + 1))
block_written front out n bs some h fits is grown =
    let comment = take n (drop 1 bs) in
    let len : length comment ≡ n = length-take-le n (drop 1 bs) fits in
    let count : n + 3 ≡ 3 + length (before_close (drop 1 bs)) = omega (arith, len, ap length is) in
    let there : plain_of (drop (n + 3) bs) ≡ plain (3 + length (before_close (drop 1 bs))) bs = sym (plain-skip (n + 3) bs) ∙ ap (λ (k : ℕ). plain k bs) count in (
      rw (grown, is, there, h) (append_assoc (front ++ 1 ∷ []) _ _ ∙ append_assoc front (1 ∷ []) _),
      omega (arith, closes_fits (drop 1 bs) h, count, length-drop 1 bs),
      rw grown (omega (arith, length-append (front ++ 1 ∷ []) (line_ends comment), length-append front (1 ∷ []), length-filter_both is_line_end is_within_line (λ x. refl) comment)),
    )

-- ---- where a comment ends

no_close_behind : (b : ℕ) (bs : List ℕ) → NoClose (b ∷ bs) → NoClose bs
no_close_behind b bs none front back e = none (b ∷ front) back (ap (λ (r : List ℕ). b ∷ r) e)

-- the two bytes are at the front
begins_with : (a c b : ℕ) (bs : List ℕ) → ((b == a) && first_is c bs) ≡ true → a ∷ c ∷ drop 1 bs ≡ b ∷ bs
begins_with a c b [] h = let none = (and_parts (b == a) false h).1 in absurd cc
begins_with a c b (d ∷ bs) h = let parts = and_parts (b == a) (d == c) h in rw (eqb-true b a parts.0, eqb-true d c parts.1) refl

no_close_here : (b : ℕ) (bs : List ℕ) → NoClose (b ∷ bs) → closes_here b bs ≡ false
no_close_here b bs none = false_from_ne_true (closes_here b bs) (λ h. none [] (drop 1 bs) (sym (begins_with 42 47 b bs h)))

never_closes : (bs : List ℕ) → NoClose bs → closes bs ≡ false
never_closes [] none = refl
never_closes (b ∷ bs) none = or_from (closes_here b bs) (closes bs) (no_close_here b bs none) (never_closes bs (no_close_behind b bs none))

first_alike : (comment : List ℕ) (rest : List ℕ) → first_is 47 (comment ++ 42 ∷ []) ≡ first_is 47 (comment ++ 42 ∷ rest)
first_alike [] rest = refl
first_alike (b ∷ comment) rest = refl

-- the first `*/` comes after the comment
closes_behind : (comment bs : List ℕ) → NoClose (comment ++ 42 ∷ []) → (closes (comment ++ 42 ∷ 47 ∷ bs) ≡ true) × (before_close (comment ++ 42 ∷ 47 ∷ bs) ≡ comment)
closes_behind [] bs none = (refl, refl)
closes_behind (b ∷ comment) bs none =
    let here : closes_here b (comment ++ 42 ∷ 47 ∷ bs) ≡ false = ap (λ (v : Bool). (b == 42) && v) (sym (first_alike comment (47 ∷ bs))) ∙ no_close_here b (comment ++ 42 ∷ []) none in
    let more = closes_behind comment bs (no_close_behind b (comment ++ 42 ∷ []) none) in
    (rw here more.0, rw here (ap (λ (r : List ℕ). b ∷ r) more.1))

line_over : (bs : List ℕ) → ends_line bs ≡ true → take_while is_within_line bs ≡ []
line_over [] h = refl
line_over (b ∷ bs) h = rw h refl

-- ---- what is in the relation is the text without its comments

code_plain : (b : ℕ) (bs out : List ℕ) → begins_comment b bs ≡ false → plain zero bs ≡ out → plain zero (b ∷ bs) ≡ as_text b ∷ out
code_plain b bs out h more =
    let parts = or_parts (b == 37) ((b == 47) && first_is 42 bs) h in
    rw (parts.0, parts.1) (ap (λ (r : List ℕ). as_text b ∷ r) more)

line_plain : (comment bs out : List ℕ) → list_all is_within_line comment ≡ true → ends_line bs ≡ true → plain zero bs ≡ out → plain zero (37 ∷ (comment ++ bs)) ≡ 32 ∷ out
line_plain comment bs out within over more =
    let whole : take_while is_within_line (comment ++ bs) ≡ comment = while_over is_within_line comment bs within ∙ rw (line_over bs over) (append-nil comment) in
    let there : plain (length (take_while is_within_line (comment ++ bs))) (comment ++ bs) ≡ out =
    ap (λ (w : List ℕ). plain (length w) (comment ++ bs)) whole ∙ plain-skip (length comment) (comment ++ bs) ∙ ap (plain zero) (drop-append_seam comment bs) ∙ more in
    ap (λ (r : List ℕ). 32 ∷ r) there

closed_plain : (comment bs out : List ℕ) → NoClose (comment ++ 42 ∷ []) → plain zero bs ≡ out → plain zero (47 ∷ 42 ∷ (comment ++ 42 ∷ 47 ∷ bs)) ≡ 1 ∷ (line_ends comment ++ out)
closed_plain comment bs out none more =
    let inside = comment ++ 42 ∷ 47 ∷ bs in
    let ends = closes_behind comment bs none in
    let one : plain zero (47 ∷ 42 ∷ inside) ≡ 1 ∷ (line_ends (before_close inside) ++ plain (3 + length (before_close inside)) (42 ∷ inside)) = rw ends.0 refl in
    let count : 3 + length comment ≡ suc (length comment + 2) = omega arith in
    let there : plain (3 + length comment) (42 ∷ inside) ≡ out =
    ap (λ (k : ℕ). plain k (42 ∷ inside)) count ∙ plain-skip (length comment + 2) inside ∙ ap (plain zero) (drop-append-add comment (42 ∷ 47 ∷ bs) 2) ∙ more in
    one ∙ ap (λ (c : List ℕ). 1 ∷ (line_ends c ++ plain (3 + length c) (42 ∷ inside))) ends.1 ∙ ap (λ (r : List ℕ). 1 ∷ (line_ends comment ++ r)) there

unclosed_plain : (bs : List ℕ) → NoClose bs → plain zero (47 ∷ 42 ∷ bs) ≡ 2 ∷ []
unclosed_plain bs none = rw (never_closes bs none) refl

pub are_plain : (bs out : List ℕ) → Plain bs out → plain zero bs ≡ out
are_plain _ _ nothing = refl
are_plain _ _ (code b bs out h more) = code_plain b bs out h (are_plain bs out more)
are_plain _ _ (to_line_end comment bs out within over more) = line_plain comment bs out within over (are_plain bs out more)
are_plain _ _ (closed comment bs out none more) = closed_plain comment bs out none (are_plain bs out more)
are_plain _ _ (unclosed bs none) = unclosed_plain bs none

-- ---- the text without its comments is in the relation

too_short : (bs : List ℕ) → length bs < 2 → NoClose bs
too_short bs short front back e = omega (arith, ap length e, length-append front (42 ∷ 47 ∷ back))

no_close_cons : (b : ℕ) (bs : List ℕ) → closes_here b bs ≡ false → NoClose bs → NoClose (b ∷ bs)
no_close_cons b bs here none [] back e = let head : b ≡ 42 = cc in let tail : bs ≡ 47 ∷ back = cc in absurd (true≢false (rw (head, tail) at here))
no_close_cons b bs here none (c ∷ front) back e = none front back (ap (drop 1) e)

record Closed (t : List ℕ) : Type 0 where
  comment : List ℕ
  rest : List ℕ
  split : comment ++ 42 ∷ 47 ∷ rest ≡ t
  none : NoClose (comment ++ 42 ∷ [])

first_close : (t : List ℕ) → Closed t ⊎ NoClose t
first_close [] = inr (too_short [] (omega arith))
first_close (b ∷ bs) =
    elim (cases_Bool (closes_here b bs)) [
      | inl h ↦ inl record { comment = []; rest = drop 1 bs; split = begins_with 42 47 b bs h; none = too_short (42 ∷ []) (omega arith) }
      | inr h ↦ elim (first_close bs) [
        | inl e ↦
            let here = ap (λ (v : Bool). (b == 42) && v) (first_alike e.comment (47 ∷ e.rest) ∙ ap (first_is 47) e.split) ∙ h in
            inl record { comment = b ∷ e.comment; rest = e.rest; split = ap (λ (r : List ℕ). b ∷ r) e.split; none = no_close_cons b (e.comment ++ 42 ∷ []) here e.none }
        | inr none ↦ inr (no_close_cons b bs h none)
      ]
    ]

record Line (t : List ℕ) : Type 0 where
  comment : List ℕ
  rest : List ℕ
  split : comment ++ rest ≡ t
  within : list_all is_within_line comment ≡ true
  over : ends_line rest ≡ true

first_line : (t : List ℕ) → Line t
first_line [] = record { comment = []; rest = []; split = refl; within = refl; over = refl }
first_line (b ∷ bs) =
    elim (cases_Bool (is_line_end b)) [
      | inl h ↦ record { comment = []; rest = b ∷ bs; split = refl; within = refl; over = h }
      | inr h ↦
          let more = first_line bs in
          record { comment = b ∷ more.comment; rest = more.rest; split = ap (λ (r : List ℕ). b ∷ r) more.split; within = and_from (is_within_line b) _ (not_from_false _ h) more.within; over = more.over }
    ]

every_text : (k : ℕ) (bs : List ℕ) → length bs ≤ k → (out : List ℕ) × Plain bs out
every_text k [] fits = ([], nothing)
every_text zero (b ∷ bs) fits = absurd (omega arith)
every_text (suc k) (b ∷ bs) fits =
    elim (cases_Bool (b == 37)) [
      | inl percent ↦
          let l = first_line bs in
          let more = every_text k l.rest (omega (arith, ap length l.split, length-append l.comment l.rest)) in
          let bytes : 37 ∷ (l.comment ++ l.rest) ≡ b ∷ bs = rw (eqb-true b 37 percent, l.split) refl in
          (32 ∷ more.0, subst (λ (r : List ℕ). Plain r (32 ∷ more.0)) bytes (to_line_end l.comment l.rest more.0 l.within l.over more.1))
      | inr other ↦ elim (cases_Bool ((b == 47) && first_is 42 bs)) [
        | inl begins ↦
            let bytes = begins_with 47 42 b bs begins in
            elim (first_close (drop 1 bs)) [
              | inl c ↦
                  let more = every_text k c.rest (omega (arith, ap length bytes, ap length c.split, length-append c.comment (42 ∷ 47 ∷ c.rest))) in (
                    1 ∷ (line_ends c.comment ++ more.0),
                    subst (λ (r : List ℕ). Plain r (1 ∷ (line_ends c.comment ++ more.0)))
                        (ap (λ (r : List ℕ). 47 ∷ 42 ∷ r) c.split ∙ bytes) (closed c.comment c.rest more.0 c.none more.1),
                  )
              | inr none ↦ (2 ∷ [], subst (λ (r : List ℕ). Plain r (2 ∷ [])) bytes (unclosed (drop 1 bs) none))
            ]
        | inr code_ ↦ let more = every_text k bs (omega arith) in (as_text b ∷ more.0, code b bs more.0 (or_from (b == 37) _ other code_) more.1)
      ]
    ]

pub is_plain : (bs out : List ℕ) → plain zero bs ≡ out → Plain bs out
is_plain bs out h = let some = every_text (length bs) bs (omega arith) in subst (Plain bs) (sym (are_plain bs some.0 some.1) ∙ h) some.1
