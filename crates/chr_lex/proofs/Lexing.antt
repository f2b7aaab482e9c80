-- Tokens.
use Rattle.std.proofs.Common.{◌≡◌, ◌<◌, ℕ, zero, suc, ◌-◌, Bool, List, [], ◌∷◌, ◌++◌, length, take, drop, refl, sym, ap, ◌∙◌, arith, Some, Result, Ok, Err, append_assoc, ◌≤◌, ◌+◌, true, false, subst, Option, None, inl, inr, lit<, length-take, length-append, ⊎_elim, length-drop}
use Rattle.std.specs.List.{take_while, list_all, starts_with}
use Rattle.std.proofs.lemmas.Grind.{common_steps}
use Rattle.std.proofs.lemmas.List.Folds.{length-prefix_len}
use Rattle.chr_lex.specs.declared.fault.Kind.{Kind}
use Rattle.chr_lex.specs.Items.{BeginsItem, is_gap}
use Rattle.chr_lex.specs.Reading.{◌>>=◌}
use Rattle.chr_lex.specs.Tokens.{Lexeme, is_operand, token_at, tokens_from, lexeme, OfWord, OfMark, Name, Variable, Number, begins_with_digit, named, lower_word, signed, signed_at}
use Rattle.std.specs.Prelude.{IfSome, option_map, nat_eq, nat_le, find, not, ◌&&◌, ◌||◌, ◌==◌, ◌⊎◌}
use Rattle.std.specs.Char.{is_ascii_digit, is_ascii_lowercase, is_ascii_uppercase}
use Rattle.std.specs.Str.{bytes_eq}
use Rattle.std.specs.Cmp.Lexicographic.{pointwise}
use Rattle.std.proofs.lemmas.Bool.{cond_both, cond-true, cond-false, and_parts, and_from, eqb-true, not-true, both_ways, or_parts, or_cases, leb-true, cases_Bool, false_from_ne_true}
use Rattle.std.proofs.lemmas.Bool.Decides.{nat_tests}
use Rattle.std.proofs.lemmas.List.{append-nil, nil_from_length, take-append-drop}
use Rattle.std.proofs.lemmas.List.Sums.{prefix_len-le-length, take_while-cons}
use Rattle.std.proofs.lemmas.Slice.Eq.{bytes_eq-Decides}
use Rattle.std.proofs.Math.Seq.{take-append_seam, drop-append_seam}
use Rattle.chr_value.specs.Spelling.{is_name_byte, is_operator}
use Rattle.chr_lex.specs.declared.mark.Mark.{Mark}
use Rattle.chr_lex.specs.declared.mark.Mark.TheVariants as mark
use Rattle.chr_lex.specs.declared.token.Token.{Token}
use Rattle.chr_lex.specs.Marks.{spelling, marks, word_marks}
use Rattle.chr_lex.specs.Lexing.{Spells, a_name, a_variable, a_number, below_zero, a_mark, Longest, Tokens, no_more, blank, token}
use Rattle.chr_lex.specs.declared.fault.Kind.TheVariants.{Syntax}
use Rattle.chr_lex.specs.Plain.{is_layout}

pub take_all_passing : (p : ℕ → Bool) (xs : List ℕ) (n : ℕ) → n ≡ length (take_while p xs) → take n xs ≡ take_while p xs
take_all_passing p xs n is = ap (λ (k : ℕ). take k xs) (is ∙ length-prefix_len p xs)

-- ---- the tokens from a place on

pub tokens-skip : (skip : ℕ) (op : Bool) (bs : List ℕ) → tokens_from skip op bs ≡ tokens_from zero op (drop skip bs)
tokens-skip zero op [] = refl
tokens-skip (suc skip) op [] = refl
tokens-skip zero op (b ∷ bs) = refl
tokens-skip (suc skip) op (b ∷ bs) = tokens-skip skip op bs

-- what was read before, and what is still read
abbrev pub with_front : List Lexeme → Result (List Lexeme) Kind → Result (List Lexeme) Kind
with_front front read = read >>= λ ts. Ok (front ++ ts)

regroup : (front : List Lexeme) (t : Lexeme) (read : Result (List Lexeme) Kind) → with_front front (read >>= λ ts. Ok (t ∷ ts)) ≡ with_front (front ++ t ∷ []) read
regroup front t (Ok ts) = ap (λ (x : List Lexeme). Ok x) (sym (append_assoc front (t ∷ []) ts))
regroup front t (Err k) = refl

pub goes_on : (front : List Lexeme) (op : Bool) (bs : List ℕ) (t : Lexeme) (n : ℕ) (total : Result (List Lexeme) Kind) → 0 < length bs → BeginsItem bs → 0 < n → token_at op bs ≡ Some (t, n)
    → with_front front (tokens_from zero op bs) ≡ total → with_front (front ++ t ∷ []) (tokens_from zero (is_operand t) (drop n bs)) ≡ total
goes_on front op [] t n total long begins some found so_far = absurd (omega arith)
goes_on front op (b ∷ bs) t zero total long begins some found so_far = absurd (omega arith)
goes_on front op (b ∷ bs) t (suc n) total long begins some found so_far =
    let after = tokens_from n (is_operand t) bs in
    let e : suc n - 1 ≡ n = omega arith in
    let one : tokens_from zero op (b ∷ bs) ≡ (tokens_from n (is_operand t) bs >>= λ ts. Ok (t ∷ ts)) = rw (begins, found, e) refl in
    let two : with_front front (tokens_from zero op (b ∷ bs)) ≡ with_front (front ++ t ∷ []) (tokens_from n (is_operand t) bs) = ap (with_front front) one ∙ regroup front t (tokens_from n (is_operand t) bs) in
    ap (with_front (front ++ t ∷ [])) (sym (tokens-skip n (is_operand t) bs)) ∙ sym two ∙ so_far

pub rest_of : (n : ℕ) (xs : List ℕ) → take (length xs - n) (drop n xs) ≡ drop n xs
rest_of n xs = grind (arith, common_steps)

-- ---- bytes that pass

pub while_cons : (p : ℕ → Bool) (b : ℕ) (bs : List ℕ) → p b ≡ true → take_while p (b ∷ bs) ≡ b ∷ take_while p bs
while_cons p b bs h = take_while-cons p b bs ∙ cond-true (p b) _ _ h

pub all_passing : (p : ℕ → Bool) (bs : List ℕ) → list_all p (take_while p bs) ≡ true
all_passing p [] = refl
all_passing p (b ∷ bs) =
    subst (λ (w : List ℕ). list_all p w ≡ true) (sym (take_while-cons p b bs))
    (cond_both (p b) (b ∷ take_while p bs) [] (λ w. list_all p w ≡ true) (λ h. and_from (p b) _ h (all_passing p bs)) (λ h. refl))

pub while_over : (p : ℕ → Bool) (v more : List ℕ) → list_all p v ≡ true → take_while p (v ++ more) ≡ v ++ take_while p more
while_over p [] more all = refl
while_over p (b ∷ v) more all =
    let parts = and_parts (p b) (list_all p v) all in
    while_cons p b (v ++ more) parts.0 ∙ ap (λ (w : List ℕ). b ∷ w) (while_over p v more parts.1)

-- ---- what is read is spelled

pointwise_same : (a b : List ℕ) → pointwise nat_eq a b ≡ true → a ≡ b
pointwise_same a b = (bytes_eq-Decides a b).0

find_passes : {X : Type 0} (p : X → Bool) (xs : List X) → IfSome (find p xs) (λ x. p x ≡ true)
find_passes p [] = tt
find_passes p (x ∷ xs) = cond_both (p x) (Some x) (find p xs) (λ o. IfSome o (λ x. p x ≡ true)) (λ h. h) (λ h. find_passes p xs)

-- the token is spelled by the bytes that it takes
abbrev IsSpelled : Bool → List ℕ → Lexeme × ℕ → Type 0
IsSpelled op bs t = Spells op t.0 (take t.1 bs) × (t.1 ≤ length bs)

at_front : (P : List ℕ → Type 0) (p : ℕ → Bool) (b : ℕ) (bs : List ℕ) → p b ≡ true → P (b ∷ take_while p bs) → P (take_while p (b ∷ bs))
at_front P p b bs h x = subst P (sym (while_cons p b bs h)) x

passing_fits : (p : ℕ → Bool) (bs : List ℕ) → length (take_while p bs) ≤ length bs
passing_fits p bs = omega (arith, length-prefix_len p bs, prefix_len-le-length p bs)

passing_spelled : (op : Bool) (f : List ℕ → Lexeme) (p : ℕ → Bool) (b : ℕ) (bs : List ℕ) → p b ≡ true → Spells op (f (b ∷ take_while p bs)) (b ∷ take_while p bs)
    → IsSpelled op (b ∷ bs) (f (take_while p (b ∷ bs)), length (take_while p (b ∷ bs)))
passing_spelled op f p b bs h s =
    let w = take_while p (b ∷ bs) in (
      subst (Spells op (f w)) (sym (take_all_passing p (b ∷ bs) (length w) refl)) (at_front (λ w. Spells op (f w) w) p b bs h s),
      passing_fits p (b ∷ bs),
    )

lower_spelled : (op : Bool) (b : ℕ) (bs : List ℕ) → is_ascii_lowercase b ≡ true → list_all is_name_byte bs ≡ true → Spells op (lower_word (b ∷ bs)) (b ∷ bs)
lower_spelled op b bs lower all =
    let w = b ∷ bs in
    let P = λ (o : Option Mark). Spells op (named w o) w in
    let is = λ (m : Mark) (h : bytes_eq w (spelling m) ≡ true). subst (Spells op (OfMark m)) (sym (pointwise_same w (spelling m) h)) (a_mark op m) in
    cond_both (bytes_eq w (spelling mark.Is)) _ _ P (is mark.Is)
    (λ i. cond_both (bytes_eq w (spelling mark.Mod)) _ _ P (is mark.Mod)
    (λ m. cond_both (bytes_eq w (spelling mark.Rem)) _ _ P (is mark.Rem) (λ r. a_name op b bs lower all (rw (i, m, r) refl))))

below_zero_spelled : (op : Bool) (b : ℕ) (bs : List ℕ) → ((b == 45) && not op && begins_with_digit bs) ≡ true
    → IsSpelled op (b ∷ bs) (OfWord (Number true (take_while is_ascii_digit bs)), 1 + length (take_while is_ascii_digit bs))
below_zero_spelled op b [] h = let none = (and_parts ((b == 45) && not op) false h).1 in absurd cc
below_zero_spelled op b (c ∷ cs) h =
    let digit = and_parts ((b == 45) && not op) (is_ascii_digit c) h in
    let minus = and_parts (b == 45) (not op) digit.0 in
    let w = take_while is_ascii_digit (c ∷ cs) in
    let e : 1 + length w ≡ suc (length w) = omega arith in
    let whole : take (length w) (c ∷ cs) ≡ w = take_all_passing is_ascii_digit (c ∷ cs) (length w) refl in
    let all = and_from (is_ascii_digit c) _ digit.1 (all_passing is_ascii_digit cs) in (
      rw (eqb-true b 45 minus.0, not-true op minus.1, e, whole)
          (at_front (λ w. Spells false (OfWord (Number true w)) (45 ∷ w)) is_ascii_digit c cs digit.1 (below_zero c _ all)),
      omega (arith, passing_fits is_ascii_digit (c ∷ cs)),
    )

mark_spelled : (op : Bool) (bs : List ℕ) (o : Option Mark) → IfSome o (λ m. starts_with nat_eq bs (spelling m) ≡ true) → IfSome (signed o) (IsSpelled op bs)
mark_spelled op bs None h = tt
mark_spelled op bs (Some m) h =
    let e = pointwise_same (spelling m) (take (length (spelling m)) bs) h in
    (subst (Spells op (OfMark m)) e (a_mark op m), omega (arith, ap length e, length-take (length (spelling m)) bs))

sign_spelled : (op : Bool) (bs : List ℕ) → IfSome (signed_at op bs) (IsSpelled op bs)
sign_spelled op [] = tt
sign_spelled op (b ∷ bs) =
    cond_both ((b == 45) && not op && begins_with_digit bs) _ _ (λ o. IfSome o (IsSpelled op (b ∷ bs)))
    (below_zero_spelled op b bs)
    (λ h. mark_spelled op (b ∷ bs) _ (find_passes (λ m. starts_with nat_eq (b ∷ bs) (spelling m)) marks))

lower_is_word : (b : ℕ) → is_ascii_lowercase b ≡ true → is_name_byte b ≡ true
lower_is_word b h = grind (arith, h)

upper_is_word : (b : ℕ) → (is_ascii_uppercase b || (b == 95)) ≡ true → is_name_byte b ≡ true
upper_is_word b h = grind (arith, h)

token_spelled : (op : Bool) (bs : List ℕ) → IfSome (token_at op bs) (IsSpelled op bs)
token_spelled op [] = tt
token_spelled op (b ∷ bs) =
    let P = λ (o : Option (Lexeme × ℕ)). IfSome o (IsSpelled op (b ∷ bs)) in
    cond_both (is_ascii_lowercase b) _ _ P
    (λ h. passing_spelled op lower_word is_name_byte b bs (lower_is_word b h) (lower_spelled op b _ h (all_passing is_name_byte bs)))
    (λ h. cond_both (is_ascii_uppercase b || (b == 95)) _ _ P
    (λ h. passing_spelled op (λ w. OfWord (Variable w)) is_name_byte b bs (upper_is_word b h) (a_variable op b _ h (all_passing is_name_byte bs)))
    (λ h. cond_both (is_ascii_digit b) _ _ P
    (λ h. passing_spelled op (λ w. OfWord (Number false w)) is_ascii_digit b bs h (a_number op b _ (and_from (is_ascii_digit b) _ h (all_passing is_ascii_digit bs))))
    (λ h. sign_spelled op (b ∷ bs))))

some_spelled : (op : Bool) (u : Lexeme) (v : List ℕ) → Spells op u v → 0 < length v
some_spelled _ _ _ (a_mark op mark.Simplify) = lit< tt
some_spelled _ _ _ (a_mark op _) = lit< tt
some_spelled _ _ _ _ = omega arith

-- a token takes at least one byte, and no more than there are
pub takes_some : (op : Bool) (bs : List ℕ) (t : Lexeme) (n : ℕ) → token_at op bs ≡ Some (t, n) → (0 < n) × (n ≤ length bs)
takes_some op bs t n h =
    let s = subst (λ (o : Option (Lexeme × ℕ)). IfSome o (IsSpelled op bs)) h (token_spelled op bs) in
    (omega (arith, some_spelled op t (take n bs) s.0, length-take n bs), s.1)

pub fits_seen : (op : Bool) (bs : List ℕ) (r : Option (Token × ℕ)) → token_at op bs ≡ option_map (λ t. (lexeme t.0, t.1)) r → IfSome r (λ t. (0 < t.1) × (t.1 ≤ length bs))
fits_seen op bs None h = tt
fits_seen op bs (Some t) h = takes_some op bs (lexeme t.0) t.1 h

-- ---- what is spelled is read, or something longer

-- the token that is read takes these bytes at least, and is this one where it takes no more
abbrev Covers : Lexeme → List ℕ → Option (Lexeme × ℕ) → Type 0
Covers u v None = ⊥
Covers u v (Some t) = (length v ≤ t.1) × (t.1 ≡ length v → t.0 ≡ u)

passing_covers : (f : List ℕ → Lexeme) (p : ℕ → Bool) (v more : List ℕ) (u : Lexeme) → list_all p v ≡ true → f v ≡ u
    → Covers u v (Some (f (take_while p (v ++ more)), length (take_while p (v ++ more))))
passing_covers f p v more u all is =
    let over = while_over p v more all in
    let count : length (take_while p (v ++ more)) ≡ length v + length (take_while p more) = ap length over ∙ length-append v _ in
    (omega arith, λ e. ap f (over ∙ ap (λ (w : List ℕ). v ++ w) (nil_from_length (take_while p more) (omega arith)) ∙ append-nil v) ∙ is)

abbrev by_spelling : List ℕ → Option Mark
by_spelling w = find (λ m. bytes_eq w (spelling m)) (marks ++ word_marks)

found_by_spelling : (m : Mark) → by_spelling (spelling m) ≡ Some m
found_by_spelling mark.Simplify = refl
found_by_spelling _ = refl

pub one_mark : (m n : Mark) → spelling m ≡ spelling n → m ≡ n
one_mark m n h = let is : Some m ≡ Some n = sym (found_by_spelling m) ∙ ap by_spelling h ∙ found_by_spelling n in cc

-- no mark as far as this one is shorter
abbrev leads : Mark → List Mark → Bool
leads m [] = false
leads m (n ∷ ns) = nat_le (length (spelling m)) (length (spelling n)) && (bytes_eq (spelling m) (spelling n) || leads m ns)

first_covers : (bs : List ℕ) (m : Mark) (ns : List Mark) → leads m ns ≡ true → starts_with nat_eq bs (spelling m) ≡ true
    → Covers (OfMark m) (spelling m) (signed (find (λ n. starts_with nat_eq bs (spelling n)) ns))
first_covers bs m [] down h = absurd cc
first_covers bs m (n ∷ ns) down h =
    let parts = and_parts (nat_le (length (spelling m)) (length (spelling n))) _ down in
    let front = λ (k : Mark). pointwise_same (spelling k) (take (length (spelling k)) bs) in
    cond_both (starts_with nat_eq bs (spelling n)) (Some n) _ (λ o. Covers (OfMark m) (spelling m) (signed o))
    (λ x. (
      leb-true _ _ parts.0,
      λ e. ap (λ (k : Mark). OfMark k) (one_mark n m (front n x ∙ ap (λ (k : ℕ). take k bs) e ∙ sym (front m h))),
    ))
    (λ x. elim (or_cases (bytes_eq (spelling m) (spelling n)) (leads m ns) parts.1) [
      | inl e ↦ absurd (both_ways _ x (ap (starts_with nat_eq bs) (sym (pointwise_same (spelling m) (spelling n) e)) ∙ h))
      | inr e ↦ first_covers bs m ns e h
    ])

some_digit : (bs : List ℕ) → begins_with_digit bs ≡ true → 0 < length (take_while is_ascii_digit bs)
some_digit [] h = absurd cc
some_digit (b ∷ bs) h = omega (arith, ap length (while_cons is_ascii_digit b bs h))

mark_covers : (op : Bool) (m : Mark) (more : List ℕ) → Covers (OfMark m) (spelling m) (token_at op (spelling m ++ more))
mark_covers op mark.Minus more =
    cond_both ((45 == 45) && not op && begins_with_digit more) _ _ (Covers (OfMark mark.Minus) (spelling mark.Minus))
    (λ h. let some = some_digit more (and_parts ((45 == 45) && not op) _ h).1 in (omega arith, λ e. absurd (omega arith)))
    (λ h. first_covers (45 ∷ more) mark.Minus marks refl refl)
mark_covers op mark.Is more = passing_covers lower_word is_name_byte (spelling mark.Is) more _ refl refl
mark_covers op mark.Mod more = passing_covers lower_word is_name_byte (spelling mark.Mod) more _ refl refl
mark_covers op mark.Rem more = passing_covers lower_word is_name_byte (spelling mark.Rem) more _ refl refl
mark_covers op m more = first_covers (spelling m ++ more) m marks refl refl

upper_not_lower : (b : ℕ) → (is_ascii_uppercase b || (b == 95)) ≡ true → is_ascii_lowercase b ≡ false
upper_not_lower b h = grind (arith, nat_tests, h)

digit_alone : (b : ℕ) → is_ascii_digit b ≡ true → (is_ascii_lowercase b ≡ false) × ((is_ascii_uppercase b || (b == 95)) ≡ false)
digit_alone b h = (grind (arith, nat_tests, h), grind (arith, nat_tests, h))

lower_named : (b : ℕ) (bs : List ℕ) → is_operator (b ∷ bs) ≡ false → lower_word (b ∷ bs) ≡ OfWord (Name (b ∷ bs))
lower_named b bs free =
    let w = b ∷ bs in
    let outer = or_parts (bytes_eq w (spelling mark.Is) || bytes_eq w (spelling mark.Mod)) (bytes_eq w (spelling mark.Rem)) free in
    let inner = or_parts (bytes_eq w (spelling mark.Is)) (bytes_eq w (spelling mark.Mod)) outer.0 in
    rw (inner.0, inner.1, outer.1) refl

spelled_covers : (op : Bool) (u : Lexeme) (v more : List ℕ) → Spells op u v → Covers u v (token_at op (v ++ more))
spelled_covers _ _ _ more (a_name op b bs lower all free) =
    subst (Covers _ (b ∷ bs)) (sym (cond-true (is_ascii_lowercase b) _ _ lower))
    (passing_covers lower_word is_name_byte (b ∷ bs) more _ (and_from (is_name_byte b) _ (lower_is_word b lower) all) (lower_named b bs free))
spelled_covers _ _ _ more (a_variable op b bs upper all) =
    subst (Covers _ (b ∷ bs)) (sym (cond-false (is_ascii_lowercase b) _ _ (upper_not_lower b upper) ∙ cond-true (is_ascii_uppercase b || (b == 95)) _ _ upper))
    (passing_covers (λ w. OfWord (Variable w)) is_name_byte (b ∷ bs) more _ (and_from (is_name_byte b) _ (upper_is_word b upper) all) refl)
spelled_covers _ _ _ more (a_number op b bs all) =
    let digit = (and_parts (is_ascii_digit b) (list_all is_ascii_digit bs) all).0 in
    let alone = digit_alone b digit in
    let read = cond-false (is_ascii_lowercase b) _ _ alone.0 ∙ cond-false (is_ascii_uppercase b || (b == 95)) _ _ alone.1 ∙ cond-true (is_ascii_digit b) _ _ digit in
    subst (Covers _ (b ∷ bs)) (sym read) (passing_covers (λ w. OfWord (Number false w)) is_ascii_digit (b ∷ bs) more _ all refl)
spelled_covers _ _ _ more (below_zero b bs all) =
    let digit = (and_parts (is_ascii_digit b) (list_all is_ascii_digit bs) all).0 in
    let number = passing_covers (λ w. OfWord (Number true w)) is_ascii_digit (b ∷ bs) more _ all refl in
    subst (Covers _ (45 ∷ b ∷ bs)) (sym (cond-true (is_ascii_digit b) _ _ digit)) (omega (arith, number.0), λ e. number.1 (omega arith))
spelled_covers _ _ _ more (a_mark op m) = mark_covers op m more

-- ---- the law

pub read_longest : (op : Bool) (w rest : List ℕ) (t : Lexeme) → token_at op (w ++ rest) ≡ Some (t, length w) → Longest op t w rest
read_longest op w rest t h = record {
  spelled = subst (Spells op t) (take-append_seam w rest) (subst (λ (o : Option (Lexeme × ℕ)). IfSome o (IsSpelled op (w ++ rest))) h (token_spelled op (w ++ rest))).0;
  longest = λ u v more e s. (subst (Covers u v) (ap (token_at op) (sym e) ∙ h) (spelled_covers op u v more s)).0;
}

at_found : (op : Bool) (w rest : List ℕ) (t : Lexeme) (o : Option (Lexeme × ℕ)) → token_at op (w ++ rest) ≡ o → Longest op t w rest → Covers t w o
    → IfSome o (IsSpelled op (w ++ rest)) → token_at op (w ++ rest) ≡ Some (t, length w)
at_found op w rest t None is l covered spelled = absurd covered
at_found op w rest t (Some x) is l covered spelled =
    let most = l.longest x.0 _ (drop x.1 (w ++ rest)) (sym (take-append-drop x.1 (w ++ rest))) spelled.0 in
    let count : x.1 ≡ length w = omega (arith, length-take x.1 (w ++ rest)) in
    is ∙ ap (λ (u : Lexeme). Some (u, x.1)) (covered.1 count) ∙ ap (λ (k : ℕ). Some (t, k)) count

pub longest_read : (op : Bool) (w rest : List ℕ) (t : Lexeme) → Longest op t w rest → token_at op (w ++ rest) ≡ Some (t, length w)
longest_read op w rest t l = at_found op w rest t _ refl l (spelled_covers op t w rest l.spelled) (token_spelled op (w ++ rest))

pub none_spelled : (op : Bool) (w rest : List ℕ) (t : Lexeme) → token_at op (w ++ rest) ≡ None → Spells op t w → ⊥
none_spelled op w rest t h s = subst (Covers t w) h (spelled_covers op t w rest s)

-- ---- what is in the relation is read

gap_unread : (op : Bool) (b : ℕ) (bs : List ℕ) → is_gap b ≡ true → token_at op (b ∷ bs) ≡ None
gap_unread op b bs h =
    let is = λ (c : ℕ) (none : token_at op (c ∷ bs) ≡ None) (e : (b == c) ≡ true). subst (λ (k : ℕ). token_at op (k ∷ bs) ≡ None) (sym (eqb-true b c e)) none in
    let of = λ (x : Bool) (c : ℕ) (none : token_at op (c ∷ bs) ≡ None) (more : x ≡ true → token_at op (b ∷ bs) ≡ None) (e : (x || (b == c)) ≡ true). ⊎_elim more (is c none) (or_cases x (b == c) e) in
    of (is_layout b) 1 refl (of ((b == 32) || (b == 9) || (b == 13)) 10 refl (of ((b == 32) || (b == 9)) 13 refl (of (b == 32) 9 refl (is 32 refl)))) h

token_read : (op : Bool) (t : Lexeme) (w rest : List ℕ) → token_at op (w ++ rest) ≡ Some (t, length w)
    → tokens_from zero op (w ++ rest) ≡ (tokens_from zero (is_operand t) rest >>= λ ts. Ok (t ∷ ts))
token_read op t [] rest found = let some = takes_some op rest t 0 found in absurd (omega arith)
token_read op t (b ∷ w) rest found =
    let gap : is_gap b ≡ false = false_from_ne_true (is_gap b) (λ e. let none = gap_unread op b (w ++ rest) e in cc) in
    let e : suc (length w) - 1 ≡ length w = omega arith in
    let there : tokens_from (suc (length w) - 1) (is_operand t) (w ++ rest) ≡ tokens_from zero (is_operand t) rest =
    ap (λ (k : ℕ). tokens_from k (is_operand t) (w ++ rest)) e ∙ tokens-skip (length w) (is_operand t) (w ++ rest) ∙ ap (tokens_from zero (is_operand t)) (drop-append_seam w rest) in
    rw (gap, found, there) refl

pub are_read : (op : Bool) (bs : List ℕ) (ts : List Lexeme) → Tokens op bs ts → tokens_from zero op bs ≡ Ok ts
are_read _ _ _ (no_more op) = refl
are_read _ _ _ (blank op b bs ts gap more) = rw gap (are_read op bs ts more)
are_read _ _ _ (token op t w rest ts l more) = token_read op t w rest (longest_read op w rest t l) ∙ rw (are_read (is_operand t) rest ts more) refl

-- ---- what is read is in the relation

-- the bytes have tokens, or they are refused
abbrev IsRead : Bool → List ℕ → Type 0
IsRead op bs = ((ts : List Lexeme) × Tokens op bs ts) ⊎ (tokens_from zero op bs ≡ Err Syntax)

after_token : (op : Bool) (t : Lexeme) (w rest : List ℕ) → token_at op (w ++ rest) ≡ Some (t, length w) → IsRead (is_operand t) rest → IsRead op (w ++ rest)
after_token op t w rest found (inl d) = inl (t ∷ d.0, token op t w rest d.0 (read_longest op w rest t found) d.1)
after_token op t w rest found (inr e) = inr (token_read op t w rest found ∙ rw e refl)

after_blank : (op : Bool) (b : ℕ) (bs : List ℕ) → is_gap b ≡ true → IsRead op bs → IsRead op (b ∷ bs)
after_blank op b bs gap (inl d) = inl (d.0, blank op b bs d.0 gap d.1)
after_blank op b bs gap (inr e) = inr (rw gap e)

at_token : (op : Bool) (b : ℕ) (bs : List ℕ) (o : Option (Lexeme × ℕ)) → token_at op (b ∷ bs) ≡ o → is_gap b ≡ false → ((op : Bool) (cs : List ℕ) → length cs ≤ length bs → IsRead op cs)
    → IsRead op (b ∷ bs)
at_token op b bs None found gap more = inr (rw (gap, found) refl)
at_token op b bs (Some t) found gap more =
    let some = takes_some op (b ∷ bs) t.0 t.1 found in
    let w = take t.1 (b ∷ bs) in
    let rest = drop t.1 (b ∷ bs) in
    let whole : w ++ rest ≡ b ∷ bs = take-append-drop t.1 (b ∷ bs) in
    let count : t.1 ≡ length w = omega (arith, length-take t.1 (b ∷ bs)) in
    let there : token_at op (w ++ rest) ≡ Some (t.0, length w) = ap (token_at op) whole ∙ found ∙ ap (λ (k : ℕ). Some (t.0, k)) count in
    subst (IsRead op) whole (after_token op t.0 w rest there (more (is_operand t.0) rest (omega (arith, length-drop t.1 (b ∷ bs)))))

every_text : (k : ℕ) (op : Bool) (bs : List ℕ) → length bs ≤ k → IsRead op bs
every_text k op [] fits = inl ([], no_more op)
every_text zero op (b ∷ bs) fits = absurd (omega arith)
every_text (suc k) op (b ∷ bs) fits =
    elim (cases_Bool (is_gap b)) [
      | inl h ↦ after_blank op b bs h (every_text k op bs (omega arith))
      | inr h ↦ at_token op b bs (token_at op (b ∷ bs)) refl h (λ op cs short. every_text k op cs (omega arith))
    ]

pub are_tokens : (op : Bool) (bs : List ℕ) (ts : List Lexeme) → tokens_from zero op bs ≡ Ok ts → Tokens op bs ts
are_tokens op bs ts h =
    elim (every_text (length bs) op bs (omega arith)) [
      | inl d ↦ let is = are_read op bs d.0 d.1 in let same : d.0 ≡ ts = cc in subst (Tokens op bs) same d.1
      | inr e ↦ absurd cc
    ]

pub refused : (op : Bool) (bs : List ℕ) (k : Kind) → tokens_from zero op bs ≡ Err k → (k ≡ Syntax) × ((ts : List Lexeme) → Tokens op bs ts → ⊥)
refused op bs k h = (
  elim (every_text (length bs) op bs (omega arith)) [
    | inl d ↦ let is = are_read op bs d.0 d.1 in absurd cc
    | inr e ↦ cc
  ],
  λ ts a. let is = are_read op bs ts a in cc,
)
