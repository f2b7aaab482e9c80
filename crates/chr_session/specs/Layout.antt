-- How the line of a command may be laid out.
use Rattle.std.specs.Prelude.{◌≡◌, ◌-◌, ◌<◌, ◌≤◌, ◌⊎◌, ◌==◌, ◌||◌, ℕ, Bool, true, false, List, [], ◌++◌, length, codes, not, slice_index}
use Rattle.std.specs.List.{list_all}
use Rattle.std.specs.Str.Parse.{digits_value, IsNumeral}
use Rattle.chr_session.specs.Parsing.{greatest_number, is_blank}

-- LF, with or without a CR directly before it
abbrev pub IsLineEnd : List ℕ → Type 0
IsLineEnd text = (text ≡ codes "\n") ⊎ (text ≡ codes "\r\n")

-- whether a text is blanks and tabs alone
abbrev pub are_blanks : List ℕ → Bool
are_blanks text = list_all is_blank text

-- a blank, a tab or a CR, which may be left out at the end of a line
abbrev pub is_margin : ℕ → Bool
is_margin b = is_blank b || b == 13

-- a text without LF that neither begins nor ends with a blank, a tab or a CR
pub record IsPlain (text : List ℕ) : Type 0 where
  pub one_line : list_all (λ b. not (b == 10)) text ≡ true
  pub first : is_margin (slice_index text 0) ≡ false
  pub last : is_margin (slice_index text (length text - 1)) ≡ false

-- 1 to 10 digits, which may begin with zeros, of a number up to the greatest
pub record IsNumber (digits : List ℕ) (n : ℕ) : Type 0 where
  pub numeral : IsNumeral 10 digits
  pub short : length digits ≤ 10
  pub value : digits_value 10 digits ≡ n
  pub within : n ≤ greatest_number

-- a line of a word and a text, with blanks and tabs before, between and after them
pub record IsLine (word text line : List ℕ) : Type 0 where
  pub before : List ℕ
  pub between : List ℕ
  pub after : List ℕ
  pub ending : List ℕ
  pub blank_before : are_blanks before ≡ true
  pub blank_between : are_blanks between ≡ true
  pub blank_after : are_blanks after ≡ true
  pub apart : (text ≡ []) ⊎ (0 < length between)
  pub short : length (before ++ (word ++ (between ++ (text ++ after)))) ≤ 4096
  pub line_end : IsLineEnd ending
  pub is : line ≡ (before ++ (word ++ (between ++ (text ++ after)))) ++ ending
