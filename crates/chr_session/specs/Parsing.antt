-- What a line says: its first word, and the text after it.
use Rattle.std.specs.Prelude.{◌-◌, ◌==◌, ◌||◌, ◌&&◌, ℕ, Bool, List, [], ◌∷◌, length, take, reverse, slice_index, codes, Option, Some, None, nat_lt, nat_le, if◌then◌else◌}
use Rattle.std.specs.Str.{all_ascii_digits, bytes_eq}
use Rattle.std.specs.Str.Parse.{digits_value}
use Rattle.chr_session.specs.declared.parsing.ParsedLine.{ParsedLine}
use Rattle.chr_session.specs.declared.parsing.ParsedLine.TheVariants.{Blank, Load, Post, Wait, Store, Log, Quit, Unknown}

-- a line without the CR directly before its LF
abbrev pub without_cr : List ℕ → List ℕ
without_cr line =
    if slice_index line (length line - 1) == 13 then take (length line - 1) line else line

-- a blank or a tab
abbrev pub is_blank : ℕ → Bool
is_blank b = b == 32 || b == 9

-- the text after the blanks at its beginning
abbrev pub after_blanks : List ℕ → List ℕ
after_blanks [] = []
after_blanks (b ∷ text) = if is_blank b then after_blanks text else b ∷ text

-- the text before the blanks at its end
abbrev pub before_blanks : List ℕ → List ℕ
before_blanks text = reverse (after_blanks (reverse text))

-- a line's bytes without its end and the blanks at both ends
abbrev pub trimmed : List ℕ → List ℕ
trimmed line = before_blanks (after_blanks (without_cr line))

-- the bytes up to the first blank
abbrev pub word_of : List ℕ → List ℕ
word_of [] = []
word_of (b ∷ text) = if is_blank b then [] else b ∷ word_of text

-- the text after the first word and the blanks that follow it
abbrev pub rest_of : List ℕ → List ℕ
rest_of [] = []
rest_of (b ∷ text) = if is_blank b then after_blanks text else rest_of text

-- the greatest number that a command may have
abbrev pub greatest_number : ℕ
greatest_number = 4294967295

-- whether a text is a number: 1 to 10 digits, whose value is no greater than that
abbrev pub is_number : List ℕ → Bool
is_number text =
    nat_lt 0 (length text) && nat_le (length text) 10 && all_ascii_digits text &&
    nat_le (digits_value 10 text) greatest_number

abbrev pub number_of : List ℕ → Option ℕ
number_of text = if is_number text then Some (digits_value 10 text) else None

abbrev pub numbered : (ℕ → ParsedLine) → Option ℕ → ParsedLine
numbered parsed None = Unknown
numbered parsed (Some n) = parsed n

-- a number that is at least 1
abbrev pub from_one : Option ℕ → Option ℕ
from_one None = None
from_one (Some n) = if n == 0 then None else Some n

abbrev pub alone : ParsedLine → List ℕ → ParsedLine
alone parsed [] = parsed
alone parsed (b ∷ text) = Unknown

abbrev pub parsed_of : List ℕ → List ℕ → ParsedLine
parsed_of word rest =
    if length word == 0 then Blank else
    if bytes_eq word (codes "load") then numbered Load (number_of rest) else
    if bytes_eq word (codes "post") then Post else
    if bytes_eq word (codes "wait") then numbered Wait (number_of rest) else
    if bytes_eq word (codes "store") then alone Store rest else
    if bytes_eq word (codes "log") then numbered Log (from_one (number_of rest)) else
    if bytes_eq word (codes "quit") then alone Quit rest else Unknown
