-- The lines of a text, and its counted bytes.
use Rattle.std.specs.Prelude.{◌≡◌, ◌≢◌, ◌<◌, ◌≤◌, ◌==◌, ℕ, Bool, true, false, List, [], ◌∷◌, length, drop, if◌then◌else◌}
use Rattle.chr_session.specs.declared.lines.LineEnd.{LineEnd}
use Rattle.chr_session.specs.declared.lines.LineEnd.TheVariants.{Whole, TooLong, Cut, End}

-- whether a line ends in the text
abbrev pub has_line : List ℕ → Bool
has_line [] = false
has_line (b ∷ text) = if b == 10 then true else has_line text

-- the bytes of the text's first line, up to its LF
abbrev pub line_of : List ℕ → List ℕ
line_of [] = []
line_of (b ∷ text) = if b == 10 then [] else b ∷ line_of text

-- what follows the first line and its LF
abbrev pub after_line : List ℕ → List ℕ
after_line [] = []
after_line (b ∷ text) = if b == 10 then text else after_line text

-- whether the line ends in the input; what follows it is still to come
pub record Skipped (found : Bool) (after : List ℕ → Type 0) (input : List ℕ) : Type 0 where
  pub has : has_line input ≡ found
  pub rest : after (after_line input)

-- how the next line of the input ends, what of it was kept, and what is still to come
abbrev pub LineIs : LineEnd → List ℕ → (List ℕ → Type 0) → List ℕ → Type 0
LineIs Whole line after input =
    (has_line input ≡ true) × (line ≡ line_of input) × (length line ≤ 4097) ×
    after (after_line input)
LineIs TooLong line after input =
    (has_line input ≡ true) × (4097 < length (line_of input)) × after (after_line input)
LineIs Cut line after input = (has_line input ≡ false) × (input ≢ [])
LineIs End line after input = input ≡ []

-- whether the input has so many bytes; then what follows them is still to come
pub record Counted (found : Bool) (count : ℕ) (after : List ℕ → Type 0)
    (input : List ℕ) : Type 0 where
  pub enough : found ≡ true → count ≤ length input
  pub few : found ≡ false → length input < count
  pub rest : found ≡ true → after (drop count input)
