-- A line's words: the first one, byte by byte, and what it says.
use Rattle.std.proofs.Common.{◌≡◌, ◌+◌, ◌-◌, ◌<◌, ◌==◌, ◌⊎◌, inl, inr, ℕ, Bool, true, false, List, [], ◌∷◌, ◌++◌, length, take, drop, get_or, codes, if◌then◌else◌, refl, sym, ap, ◌∙◌, append_assoc, append-nil, true≢false, ◌*◌, ◌≤◌, ◌&&◌, Option, Some, None, slice_index, nat_le, arith}
use Rattle.std.proofs.lemmas.Bool.{false≢true}
use Rattle.std.proofs.lemmas.List.{take_more, drop_more, take_rest}
use Rattle.std.specs.Str.{bytes_eq, all_ascii_digits}
use Rattle.chr_session.specs.declared.parsing.ParsedLine.TheVariants as lines
use Rattle.chr_session.specs.Parsing.{is_blank, after_blanks, word_of, rest_of, parsed_of, number_of}
use Rattle.chr_session.proofs.Passed.{some_left}
use Rattle.std.specs.Char.{digit_value, is_ascii_digit}
use Rattle.std.specs.Str.Parse.{digits_value_after}
use Rattle.std.proofs.lemmas.Grind.{common_steps}

goes_on : (b : ℕ) (text : List ℕ) → is_blank b ≡ false → (word_of (b ∷ text) ≡ b ∷ word_of text) × (rest_of (b ∷ text) ≡ rest_of text)
goes_on b text e = (rw e refl, rw e refl)

ends : (b : ℕ) (text : List ℕ) → is_blank b ≡ true → (word_of (b ∷ text) ≡ []) × (rest_of (b ∷ text) ≡ after_blanks text)
ends b text e = (rw e refl, rw e refl)

module _ (text : List ℕ) (i : ℕ) (lt : i < length text) where
  pub word_longer : is_blank (get_or text i 0) ≡ false → word_of text ≡ take i text ++ word_of (drop i text) → word_of text ≡ take (i + 1) text ++ word_of (drop (i + 1) text)
  word_longer e h =
      let here : word_of (drop i text) ≡ get_or text i 0 ∷ word_of (drop (i + 1) text) = ap word_of (drop_more text i 0 lt) ∙ (goes_on (get_or text i 0) (drop (i + 1) text) e).0 in
      h ∙ ap (λ (t : List ℕ). take i text ++ t) here ∙ sym (append_assoc (take i text) (get_or text i 0 ∷ []) (word_of (drop (i + 1) text))) ∙ ap (λ (t : List ℕ). t ++ word_of (drop (i + 1) text)) (sym (take_more text i 0 lt))

  pub rest_later : is_blank (get_or text i 0) ≡ false → rest_of text ≡ rest_of (drop i text) → rest_of text ≡ rest_of (drop (i + 1) text)
  rest_later e h = h ∙ ap rest_of (drop_more text i 0 lt) ∙ (goes_on (get_or text i 0) (drop (i + 1) text) e).1

  pub word_whole : is_blank (get_or text i 0) ≡ true → word_of text ≡ take i text ++ word_of (drop i text) → take i text ≡ word_of text
  word_whole e h = sym (h ∙ ap (λ (t : List ℕ). take i text ++ t) (ap word_of (drop_more text i 0 lt) ∙ (ends (get_or text i 0) (drop (i + 1) text) e).0) ∙ append-nil (take i text))

  pub rest_whole : {rest : List ℕ} → is_blank (get_or text i 0) ≡ true → rest ≡ after_blanks (take (length text - (i + 1)) (drop (i + 1) text)) → rest_of text ≡ rest_of (drop i text) → rest ≡ rest_of text
  rest_whole e is h = is ∙ ap after_blanks (take_rest text (i + 1)) ∙ sym (h ∙ ap rest_of (drop_more text i 0 lt) ∙ (ends (get_or text i 0) (drop (i + 1) text) e).1)

either : (q : Bool) → lines.Unknown ≡ (if q then lines.Unknown else lines.Unknown)
either true = refl
either false = refl

-- a word that is none of the first five
module _ (word : List ℕ) (some : (length word == 0) ≡ false) (load : bytes_eq word (codes "load") ≡ false) (post : bytes_eq word (codes "post") ≡ false) (wait : bytes_eq word (codes "wait") ≡ false) (store : bytes_eq word (codes "store") ≡ false) (log : bytes_eq word (codes "log") ≡ false) where
  pub parsed_quit : (rest : List ℕ) → bytes_eq word (codes "quit") ≡ true → (length rest == 0) ≡ true → lines.Quit ≡ parsed_of word rest
  parsed_quit [] quit alone = rw (some, load, post, wait, store, log, quit) refl
  parsed_quit (b ∷ rest) quit alone = absurd (false≢true (sym (some_left (length rest)) ∙ alone))

  pub parsed_unknown : (rest : List ℕ) → ((bytes_eq word (codes "quit") ≡ false) ⊎ ((length rest == 0) ≡ false)) → lines.Unknown ≡ parsed_of word rest
  parsed_unknown rest (inl other) = rw (some, load, post, wait, store, log, other) refl
  parsed_unknown [] (inr more) = absurd (true≢false more)
  parsed_unknown (b ∷ rest) (inr more) = rw (some, load, post, wait, store, log) (either (bytes_eq word (codes "quit")))

-- what a comparison with a literal says
pub compared : {answer is : Bool} (word seen text : List ℕ) → answer ≡ bytes_eq word seen → seen ≡ text → answer ≡ is → bytes_eq word text ≡ is
compared word seen text told same result = ap (bytes_eq word) (sym same) ∙ (sym told ∙ result)

-- A number, digit by digit.

-- the number up to 4,294,967,295 whose first digits give n, and whose others are these
abbrev pub number_from : ℕ → List ℕ → Option ℕ
number_from n [] = Some n
number_from n (c ∷ text) = if nat_le 48 c && nat_le c 57 && nat_le (10 * n + (c - 48)) 4294967295 then number_from (10 * n + (c - 48)) text else None

value_rises : (n : ℕ) (text : List ℕ) → n ≤ digits_value_after 10 n text
value_rises n [] = omega arith
value_rises n (c ∷ text) = omega (arith, value_rises (n * 10 + digit_value c) text)

-- the same, from the value of all its digits
abbrev whole : ℕ → List ℕ → Option ℕ
whole n text = if all_ascii_digits text && nat_le (digits_value_after 10 n text) 4294967295 then Some (digits_value_after 10 n text) else None

digit_next : (n c : ℕ) → is_ascii_digit c ≡ true → n * 10 + digit_value c ≡ 10 * n + (c - 48)
digit_next n c digit =
    let d : digit_value c ≡ c - 48 = grind (arith, common_steps, digit) in
    omega (arith, d)

number_step : (n c : ℕ) (text : List ℕ) → (10 * n + (c - 48) ≤ 4294967295 → number_from (10 * n + (c - 48)) text ≡ whole (10 * n + (c - 48)) text) → number_from n (c ∷ text) ≡ whole n (c ∷ text)
number_step n c text more = grind (arith, common_steps, digit_next n c, value_rises (10 * n + (c - 48)) text, more)

pub number_from_is : (n : ℕ) (text : List ℕ) → n ≤ 4294967295 → number_from n text ≡ whole n text
number_from_is n [] low = grind (arith, common_steps, low)
number_from_is n (c ∷ text) low = number_step n c text (number_from_is (10 * n + (c - 48)) text)

number_is : (text : List ℕ) → 0 < length text → length text ≤ 10 → number_of text ≡ number_from 0 text
number_is text some few = let w = number_from_is 0 text (omega arith) in grind (arith, common_steps, some, few, w)

none_if : (n : ℕ) (text : List ℕ) → 0 < length text → (nat_le 48 (slice_index text 0) && nat_le (slice_index text 0) 57 && nat_le (10 * n + (slice_index text 0 - 48)) 4294967295) ≡ false → number_from n text ≡ None
none_if n [] some fails = absurd (omega (arith, some))
none_if n (c ∷ text) some fails = rw fails refl

at_end : (n : ℕ) (text : List ℕ) → length text ≡ 0 → number_from n text ≡ Some n
at_end n [] none = refl
at_end n (c ∷ text) none = absurd (omega (arith, none))

-- what the loop answers, where it has come to a rest of the text
module _ (text rest : List ℕ) (n : ℕ) (some : 0 < length text) (few : length text ≤ 10) (same : number_from 0 text ≡ number_from n rest) where
  pub answer_none : 0 < length rest → (nat_le 48 (slice_index rest 0) && nat_le (slice_index rest 0) 57 && nat_le (10 * n + (slice_index rest 0 - 48)) 4294967295) ≡ false → None ≡ number_of text
  answer_none left fails = sym (number_is text some few ∙ (same ∙ none_if n rest left fails))

  pub answer_some : length rest ≡ 0 → Some n ≡ number_of text
  answer_some none = sym (number_is text some few ∙ (same ∙ at_end n rest none))
