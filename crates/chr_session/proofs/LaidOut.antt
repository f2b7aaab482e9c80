-- What the line of a command is read as, however it is laid out.
use Rattle.std.proofs.Common.{◌≡◌, ◌+◌, ◌-◌, ◌<◌, ◌≤◌, ◌⊎◌, ◌==◌, ℕ, Bool, true, false, List, [], ◌∷◌, ◌++◌, length, reverse, not, slice_index, get_or, inl, inr, refl, sym, ap, ◌∙◌, append_assoc, append-nil, length-append, arith, take, codes, Some}
use Rattle.std.specs.List.{list_all}
use Rattle.std.proofs.lemmas.List.{reverse-append, reverse-reverse, get_or-reverse}
use Rattle.std.proofs.lemmas.List.Folds.{list_all-append}
use Rattle.std.proofs.lemmas.List.Sorted.{IsPermutation-reverse, All-permutation}
use Rattle.std.proofs.lemmas.List.Sums.{AllPass-from_list_all, list_all-from_AllPass}
use Rattle.std.proofs.lemmas.Grind.{common_steps}
use Rattle.std.proofs.Math.Seq.{get_or-append_seam, take-append_seam}
use Rattle.chr_session.specs.Lines.{has_line, line_of, after_line}
use Rattle.chr_session.specs.Parsing.{without_cr, is_blank, after_blanks, before_blanks, trimmed, word_of, rest_of, parsed_of, number_of}
use Rattle.chr_session.specs.Spelling.{parsed_spells, line_spells, next, Spelling, Ending, load_spells}
use Rattle.chr_session.specs.Layout.{IsLineEnd, are_blanks, IsPlain, IsLine, is_margin, IsNumber}
use Rattle.chr_session.proofs.FirstSpelled.{next_of_line, line_parsed}
use Rattle.std.specs.Char.{digit_value, is_ascii_digit}
use Rattle.std.specs.Str.{all_ascii_digits}
use Rattle.std.specs.Str.Parse.{AllDigits}
use Rattle.std.proofs.lemmas.Str.Parse.{digit_from_value}
use Rattle.chr_session.specs.declared.commands.Ended.TheVariants as ended
use Rattle.chr_session.specs.declared.parsing.ParsedLine.TheVariants as lines
use Rattle.chr_session.specs.Commands.{Right, Load, Post, Wait, Store, Log}

-- lines

abbrev pub not_lf : ℕ → Bool
not_lf b = not (b == 10)

all_cons : (p : ℕ → Bool) (c : ℕ) (b : List ℕ) → list_all p (c ∷ b) ≡ true → (p c ≡ true) × (list_all p b ≡ true)
all_cons p c b h = (grind (arith, common_steps, h), grind (arith, common_steps, h))

-- what is true of each that passes a test
pub passes_too : (p q : ℕ → Bool) → ((c : ℕ) → p c ≡ true → q c ≡ true) → (text : List ℕ) → list_all p text ≡ true → list_all q text ≡ true
passes_too p q more text h = list_all-from_AllPass q text (λ k d within. more (get_or text k d) (AllPass-from_list_all p text h k d within))

first_line : (p tail : List ℕ) → list_all not_lf p ≡ true → (has_line (p ++ 10 ∷ tail) ≡ true) × (line_of (p ++ 10 ∷ tail) ≡ p) × (after_line (p ++ 10 ∷ tail) ≡ tail)
first_line [] tail h = (refl, refl, refl)
first_line (b ∷ p) tail h =
    let h' = all_cons not_lf b p h in
    let i = first_line p tail h'.1 in
    (grind (arith, common_steps, h'.0, i.0), grind (arith, common_steps, h'.0, i.1), grind (arith, common_steps, h'.0, i.2))

next_line : (p tail : List ℕ) → list_all not_lf p ≡ true → next (p ++ 10 ∷ tail) ≡ line_spells p tail
next_line p tail h =
    let l = first_line p tail h in
    next_of_line (p ++ 10 ∷ tail) l.0 ∙ (λ k. line_spells (l.1 k) (l.2 k))

blanks_no_lf : (b : List ℕ) → are_blanks b ≡ true → list_all not_lf b ≡ true
blanks_no_lf b h = passes_too is_blank not_lf (λ c blank. grind (arith, common_steps, blank)) b h

both_no_lf : (p q : List ℕ) → list_all not_lf p ≡ true → list_all not_lf q ≡ true → list_all not_lf (p ++ q) ≡ true
both_no_lf p q h k = list_all-append not_lf p q ∙ rw (h, k) refl

-- the last byte

abbrev pub NoCr : List ℕ → Type 0
NoCr text = (slice_index text (length text - 1) == 13) ≡ false

last_after : (p : List ℕ) (c : ℕ) (q : List ℕ) → slice_index (p ++ c ∷ q) (length (p ++ c ∷ q) - 1) ≡ slice_index (c ∷ q) (length (c ∷ q) - 1)
last_after p c q =
    let size : length (p ++ c ∷ q) ≡ length p + length (c ∷ q) = length-append p (c ∷ q) in
    grind (arith, common_steps, size)

-- the last byte of a text that passes a test
pub last_passes : (p : ℕ → Bool) (c : ℕ) (text : List ℕ) → list_all p (c ∷ text) ≡ true → p (slice_index (c ∷ text) (length (c ∷ text) - 1)) ≡ true
last_passes p c text h = AllPass-from_list_all p (c ∷ text) h (length (c ∷ text) - 1) 0 (omega arith)

no_cr_both : (p q : List ℕ) → NoCr p → NoCr q → NoCr (p ++ q)
no_cr_both p [] h k = rw (append-nil p) h
no_cr_both p (c ∷ q) h k = rw (last_after p c q) k

no_cr_blanks : (b : List ℕ) → are_blanks b ≡ true → NoCr b
no_cr_blanks [] h = refl
no_cr_blanks (c ∷ b) h = blank_no_cr (slice_index (c ∷ b) (length (c ∷ b) - 1)) (last_passes is_blank c b h)
  where
    blank_no_cr : (c : ℕ) → is_blank c ≡ true → (c == 13) ≡ false
    blank_no_cr c blank = grind (arith, common_steps, blank)

no_cr_plain : (text : List ℕ) → IsPlain text → NoCr text
no_cr_plain text plain = grind (arith, common_steps, plain.last)

cr_goes : (p : List ℕ) → without_cr (p ++ 13 ∷ []) ≡ p
cr_goes p =
    let at : length (p ++ 13 ∷ []) - 1 ≡ length p = omega (arith, length-append p (13 ∷ [])) in
    let last : slice_index (p ++ 13 ∷ []) (length p) ≡ 13 = get_or-append_seam p 13 [] 0 in
    rw (at, last) (take-append_seam p (13 ∷ []))

-- blanks

blanks_go : (b text : List ℕ) → are_blanks b ≡ true → after_blanks (b ++ text) ≡ after_blanks text
blanks_go [] text h = refl
blanks_go (c ∷ b) text h = let h' = all_cons is_blank c b h in grind (arith, common_steps, h'.0, blanks_go b text h'.1)

plain_stays : (text : List ℕ) → is_blank (slice_index text 0) ≡ false → after_blanks text ≡ text
plain_stays [] h = refl
plain_stays (c ∷ text) h = let e : is_blank c ≡ false = grind (arith, common_steps, h) in rw e refl

blanks_turned : (b : List ℕ) → are_blanks b ≡ true → are_blanks (reverse b) ≡ true
blanks_turned b h = list_all-from_AllPass is_blank (reverse b) (All-permutation (λ c. is_blank c ≡ true) b (reverse b) (IsPermutation-reverse b) (AllPass-from_list_all is_blank b h))

last_turned : (text : List ℕ) → slice_index (reverse text) 0 ≡ slice_index text (length text - 1)
last_turned [] = refl
last_turned (c ∷ text) = let r = get_or-reverse (c ∷ text) 0 0 (omega arith) in grind (arith, common_steps, r)

end_goes : (text b : List ℕ) → are_blanks b ≡ true → is_blank (slice_index text (length text - 1)) ≡ false → before_blanks (text ++ b) ≡ text
end_goes text b h k =
    let r : reverse (text ++ b) ≡ reverse b ++ reverse text = reverse-append text b in
    let front : is_blank (slice_index (reverse text) 0) ≡ false = rw (last_turned text) k in
    let same : after_blanks (reverse b ++ reverse text) ≡ reverse text = blanks_go (reverse b) (reverse text) (blanks_turned b h) ∙ plain_stays (reverse text) front in
    rw (r, same) (reverse-reverse text)

-- words

-- a word: bytes without a blank or a tab, that are plain
pub record IsWord (word : List ℕ) : Type 0 where
  pub some : 0 < length word
  pub plain : IsPlain word
  pub unbroken : list_all (λ b. not (is_blank b)) word ≡ true

word_alone : (word : List ℕ) → list_all (λ b. not (is_blank b)) word ≡ true → (word_of word ≡ word) × (rest_of word ≡ [])
word_alone [] h = (refl, refl)
word_alone (c ∷ word) h =
    let h' = all_cons (λ b. not (is_blank b)) c word h in
    let i = word_alone word h'.1 in
    (grind (arith, common_steps, h'.0, i.0), grind (arith, common_steps, h'.0, i.1))

word_apart : (word : List ℕ) (b : ℕ) (text : List ℕ) → list_all (λ b. not (is_blank b)) word ≡ true → is_blank b ≡ true → (word_of (word ++ b ∷ text) ≡ word) × (rest_of (word ++ b ∷ text) ≡ after_blanks text)
word_apart [] b text h k = (grind (arith, common_steps, k), grind (arith, common_steps, k))
word_apart (c ∷ word) b text h k =
    let h' = all_cons (λ b. not (is_blank b)) c word h in
    let i = word_apart word b text h'.1 k in
    (grind (arith, common_steps, h'.0, i.0), grind (arith, common_steps, h'.0, i.1))

first_stays : (word text : List ℕ) → 0 < length word → slice_index (word ++ text) 0 ≡ slice_index word 0
first_stays word text some = grind (arith, common_steps, some)

word_no_blank : (text : List ℕ) → IsPlain text → is_blank (slice_index text 0) ≡ false
word_no_blank text plain = grind (arith, common_steps, plain.first)

end_no_blank : (text : List ℕ) → IsPlain text → is_blank (slice_index text (length text - 1)) ≡ false
end_no_blank text plain = grind (arith, common_steps, plain.last)

-- the line of a word alone, without its end
trimmed_word : (before word between after : List ℕ) → IsWord word → are_blanks before ≡ true → are_blanks between ≡ true → are_blanks after ≡ true → before_blanks (after_blanks (before ++ (word ++ (between ++ ([] ++ after))))) ≡ word
trimmed_word before word between after w b c d =
    let front : is_blank (slice_index (word ++ (between ++ after)) 0) ≡ false = rw (first_stays word (between ++ after) w.some) (word_no_blank word w.plain) in
    let blanks : are_blanks (between ++ after) ≡ true = list_all-append is_blank between after ∙ rw (c, d) refl in
    ap before_blanks (blanks_go before (word ++ (between ++ after)) b ∙ plain_stays (word ++ (between ++ after)) front) ∙ end_goes word (between ++ after) blanks (end_no_blank word w.plain)

-- the line of a word and a text, without its end
trimmed_both : (before word between text after : List ℕ) → IsWord word → IsPlain text → 0 < length text → are_blanks before ≡ true → are_blanks after ≡ true → before_blanks (after_blanks (before ++ (word ++ (between ++ (text ++ after))))) ≡ word ++ (between ++ text)
trimmed_both before word between [] after w t some b d = absurd (omega (arith, some))
trimmed_both before word between (x ∷ text) after w t some b d =
    let front : is_blank (slice_index (word ++ (between ++ ((x ∷ text) ++ after))) 0) ≡ false = rw (first_stays word (between ++ ((x ∷ text) ++ after)) w.some) (word_no_blank word w.plain) in
    let grouped : word ++ (between ++ ((x ∷ text) ++ after)) ≡ (word ++ (between ++ (x ∷ text))) ++ after = ap (λ t. word ++ t) (sym (append_assoc between (x ∷ text) after)) ∙ sym (append_assoc word (between ++ (x ∷ text)) after) in
    let last : slice_index (word ++ (between ++ (x ∷ text))) (length (word ++ (between ++ (x ∷ text))) - 1) ≡ slice_index (x ∷ text) (length (x ∷ text) - 1) = ap (λ l. slice_index l (length l - 1)) (sym (append_assoc word between (x ∷ text))) ∙ last_after (word ++ between) x text in
    let end : is_blank (slice_index (word ++ (between ++ (x ∷ text))) (length (word ++ (between ++ (x ∷ text))) - 1)) ≡ false = rw last (end_no_blank (x ∷ text) t) in
    ap before_blanks (blanks_go before (word ++ (between ++ ((x ∷ text) ++ after))) b ∙ (plain_stays (word ++ (between ++ ((x ∷ text) ++ after))) front ∙ grouped)) ∙ end_goes (word ++ (between ++ (x ∷ text))) after d end

-- what the trimmed line has
pub record HasWords (line word text : List ℕ) : Type 0 where
  pub word_is : word_of line ≡ word
  pub text_is : rest_of line ≡ text

split_both : (word between text : List ℕ) → IsWord word → IsPlain text → are_blanks between ≡ true → 0 < length between → HasWords (word ++ (between ++ text)) word text
split_both word [] text w t c apart = absurd (omega (arith, apart))
split_both word (b ∷ between) text w t c apart =
    let c' = all_cons is_blank b between c in
    let s = word_apart word b (between ++ text) w.unbroken c'.0 in
    record { word_is = s.0; text_is = s.1 ∙ (blanks_go between text c'.1 ∙ plain_stays text (word_no_blank text t)) }

has_words : (before word between text after : List ℕ) → IsWord word → IsPlain text → are_blanks before ≡ true → are_blanks between ≡ true → are_blanks after ≡ true → (text ≡ []) ⊎ (0 < length between) → HasWords (before_blanks (after_blanks (before ++ (word ++ (between ++ (text ++ after)))))) word text
has_words before word between [] after w t b c d apart =
    let s = word_alone word w.unbroken in
    let e = trimmed_word before word between after w b c d in
    record { word_is = ap word_of e ∙ s.0; text_is = ap rest_of e ∙ s.1 }
has_words before word between (x ∷ text) after w t b c d (inl none) = absurd (omega (arith, ap length none))
has_words before word between (x ∷ text) after w t b c d (inr apart) =
    let s = split_both word between (x ∷ text) w t c apart in
    let e = trimmed_both before word between (x ∷ text) after w t (omega arith) b d in
    record { word_is = ap word_of e ∙ s.word_is; text_is = ap rest_of e ∙ s.text_is }

-- a line without its end
abbrev body : {word text line : List ℕ} → IsLine word text line → List ℕ
body {word} {text} l = l.before ++ (word ++ (l.between ++ (text ++ l.after)))

-- what holds of its parts, and of two texts one after the other
body_has : {word text line : List ℕ} (P : List ℕ → Type 0) → ((p q : List ℕ) → P p → P q → P (p ++ q)) → ((b : List ℕ) → are_blanks b ≡ true → P b) → (l : IsLine word text line) → P word → P text → P (body l)
body_has {word} {text} P both blanks l w t =
    let rest = both l.between (text ++ l.after) (blanks l.between l.blank_between) (both text l.after t (blanks l.after l.blank_after)) in
    both l.before (word ++ (l.between ++ (text ++ l.after))) (blanks l.before l.blank_before) (both word (l.between ++ (text ++ l.after)) w rest)

line_is_parsed : (p line word text rest : List ℕ) → without_cr line ≡ p → length p ≤ 4096 → HasWords (before_blanks (after_blanks p)) word text → line_spells line rest ≡ parsed_spells (parsed_of word text) text rest
line_is_parsed p line word text rest cr short words =
    let word_is : word_of (trimmed line) ≡ word = ap (λ q. word_of (before_blanks (after_blanks q))) cr ∙ words.word_is in
    let text_is : rest_of (trimmed line) ≡ text = ap (λ q. rest_of (before_blanks (after_blanks q))) cr ∙ words.text_is in
    line_parsed line rest (omega (arith, short, ap length cr))
    ∙ (ap (λ w. parsed_spells (parsed_of w (rest_of (trimmed line))) (rest_of (trimmed line)) rest) word_is ∙ ap (λ t. parsed_spells (parsed_of word t) t rest) text_is)

by_end : (p line ending word text tail : List ℕ) → IsLineEnd ending → line ≡ p ++ ending → list_all not_lf p ≡ true → NoCr p → length p ≤ 4096 → HasWords (before_blanks (after_blanks p)) word text → next (line ++ tail) ≡ parsed_spells (parsed_of word text) text tail
by_end p line ending word text tail (inl lf) is one no_cr short words =
    let e : line ++ tail ≡ p ++ 10 ∷ tail = ap (λ l. l ++ tail) (is ∙ ap (λ d. p ++ d) lf) ∙ append_assoc p (10 ∷ []) tail in
    ap next e ∙ (next_line p tail one ∙ line_is_parsed p p word text tail (rw no_cr refl) short words)
by_end p line ending word text tail (inr cr_lf) is one no_cr short words =
    let e : line ++ tail ≡ p ++ 13 ∷ 10 ∷ tail = ap (λ l. l ++ tail) (is ∙ ap (λ d. p ++ d) cr_lf) ∙ append_assoc p (13 ∷ 10 ∷ []) tail in
    let f : p ++ 13 ∷ 10 ∷ tail ≡ (p ++ 13 ∷ []) ++ 10 ∷ tail = sym (append_assoc p (13 ∷ []) (10 ∷ tail)) in
    ap next (e ∙ f) ∙ (next_line (p ++ 13 ∷ []) tail (both_no_lf p (13 ∷ []) one refl) ∙ line_is_parsed p (p ++ 13 ∷ []) word text tail (cr_goes p) short words)

pub next_command : (word text line tail : List ℕ) → IsWord word → IsPlain text → IsLine word text line → next (line ++ tail) ≡ parsed_spells (parsed_of word text) text tail
next_command word text line tail w t l = by_end (body l) line l.ending word text tail l.line_end l.is (body_has (λ p. list_all not_lf p ≡ true) both_no_lf blanks_no_lf l w.plain.one_line t.one_line) (body_has NoCr no_cr_both no_cr_blanks l (no_cr_plain word w.plain) (no_cr_plain text t)) l.short (has_words l.before word l.between text l.after w t l.blank_before l.blank_between l.blank_after l.apart)

-- Each command, as it is laid out, is read as that command.

-- numbers

digit_is : (c : ℕ) → digit_value c < 10 → is_ascii_digit c ≡ true
digit_is c h = let r = digit_from_value c h in grind (arith, common_steps, r)

all_digits : (ds : List ℕ) → AllDigits 10 ds → (all_ascii_digits ds ≡ true) × (list_all is_ascii_digit ds ≡ true)
all_digits [] h = (refl, refl)
all_digits (c ∷ ds) h = let i = all_digits ds h.1 in (rw (digit_is c h.0, i.0) refl, rw (digit_is c h.0, i.1) refl)

no_margin : (c : ℕ) → is_ascii_digit c ≡ true → is_margin c ≡ false
no_margin c e = grind (arith, common_steps, e)

digits_plain : (ds : List ℕ) → list_all is_ascii_digit ds ≡ true → IsPlain ds
digits_plain [] h = record { one_line = refl; first = refl; last = refl }
digits_plain (c ∷ ds) h = record {
  one_line = passes_too is_ascii_digit not_lf (λ c digit. grind (arith, common_steps, digit)) (c ∷ ds) h;
  first = no_margin c (AllPass-from_list_all is_ascii_digit (c ∷ ds) h 0 0 (omega arith));
  last = no_margin (slice_index (c ∷ ds) (length (c ∷ ds) - 1)) (last_passes is_ascii_digit c ds h);
}

number_plain : (digits : List ℕ) (n : ℕ) → IsNumber digits n → IsPlain digits
number_plain digits n number = digits_plain digits (all_digits digits number.numeral.1).1

number_read : (digits : List ℕ) (n : ℕ) → IsNumber digits n → number_of digits ≡ Some n
number_read digits n number =
    let all = (all_digits digits number.numeral.1).0 in
    let some : 0 < length digits = number.numeral.0 in
    grind (arith, common_steps, all, some, number.short, number.value, number.within)

-- commands

is_word : (word : List ℕ) → 0 < length word → list_all not_lf word ≡ true → is_margin (slice_index word 0) ≡ false → is_margin (slice_index word (length word - 1)) ≡ false → list_all (λ b. not (is_blank b)) word ≡ true → IsWord word
is_word word some one first last unbroken = record { some = some; plain = record { one_line = one; first = first; last = last }; unbroken = unbroken }

parsed_number : (digits : List ℕ) (n : ℕ) → number_of digits ≡ Some n → (parsed_of (codes "wait") digits ≡ lines.Wait n) × (parsed_of (codes "load") digits ≡ lines.Load n) × (1 ≤ n → parsed_of (codes "log") digits ≡ lines.Log n)
parsed_number digits n number = (rw number refl, rw number refl, λ some. rw number (grind (arith, common_steps, some)))

pub wait_read : (line digits tail : List ℕ) (n : ℕ) → IsNumber digits n → IsLine (codes "wait") digits line → next (line ++ tail) ≡ (Spelling (Right (Wait n)), tail)
wait_read line digits tail n number l = next_command (codes "wait") digits line tail (is_word (codes "wait") (omega arith) refl refl refl refl) (number_plain digits n number) l ∙ ap (λ p. parsed_spells p digits tail) (parsed_number digits n (number_read digits n number)).0

pub log_read : (line digits tail : List ℕ) (n : ℕ) → IsNumber digits n → 1 ≤ n → IsLine (codes "log") digits line → next (line ++ tail) ≡ (Spelling (Right (Log n)), tail)
log_read line digits tail n number some l = next_command (codes "log") digits line tail (is_word (codes "log") (omega arith) refl refl refl refl) (number_plain digits n number) l ∙ ap (λ p. parsed_spells p digits tail) ((parsed_number digits n (number_read digits n number)).2 some)

pub store_read : (line tail : List ℕ) → IsLine (codes "store") [] line → next (line ++ tail) ≡ (Spelling (Right Store), tail)
store_read line tail l = next_command (codes "store") [] line tail (is_word (codes "store") (omega arith) refl refl refl refl) (digits_plain [] refl) l

pub quit_read : (line tail : List ℕ) → IsLine (codes "quit") [] line → next (line ++ tail) ≡ (Ending ended.Quit, [])
quit_read line tail l = next_command (codes "quit") [] line tail (is_word (codes "quit") (omega arith) refl refl refl refl) (digits_plain [] refl) l

pub post_read : (line text tail : List ℕ) → IsPlain text → IsLine (codes "post") text line → next (line ++ tail) ≡ (Spelling (Right (Post text)), tail)
post_read line text tail plain l = next_command (codes "post") text line tail (is_word (codes "post") (omega arith) refl refl refl refl) plain l

load_whole : (text tail : List ℕ) → length text ≤ 65536 → load_spells (length text) (text ++ tail) ≡ (Spelling (Right (Load text)), tail)
load_whole text tail few =
    let front : take (length text) (text ++ tail) ≡ text = take-append_seam text tail in
    grind (arith, common_steps, front, few)

pub load_read : (line digits text tail : List ℕ) → IsNumber digits (length text) → length text ≤ 65536 → IsLine (codes "load") digits line → next (line ++ (text ++ tail)) ≡ (Spelling (Right (Load text)), tail)
load_read line digits text tail number few l = next_command (codes "load") digits line (text ++ tail) (is_word (codes "load") (omega arith) refl refl refl refl) (number_plain digits (length text) number) l ∙ (ap (λ p. parsed_spells p digits (text ++ tail)) (parsed_number digits (length text) (number_read digits (length text) number)).1 ∙ load_whole text tail few)
