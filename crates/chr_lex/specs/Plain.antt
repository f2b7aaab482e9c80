-- The text without its comments.
use Rattle.std.specs.Prelude.{ℕ, zero, suc, ◌+◌, Bool, false, List, [], ◌∷◌, ◌++◌, length, drop, filter, ◌==◌, ◌&&◌, ◌||◌, not, nat_le, if◌then◌else◌}
use Rattle.std.specs.List.{list_any, take_while}
use Rattle.chr_lex.specs.declared.plain.TheConstants.{BAD, COMMENT, UNCLOSED}

abbrev pub is_layout : ℕ → Bool
is_layout b = (b == 32) || (b == 9) || (b == 13) || (b == 10)

-- what may be outside of comments
abbrev pub is_text : ℕ → Bool
is_text b = is_layout b || (nat_le 32 b && nat_le b 126)

abbrev pub as_text : ℕ → ℕ
as_text b = if is_text b then b else BAD

abbrev pub first_is : ℕ → List ℕ → Bool
first_is a [] = false
first_is a (b ∷ bs) = b == a

-- whether these bytes are `*/` at the front
abbrev pub closes_here : ℕ → List ℕ → Bool
closes_here b bs = (b == 42) && first_is 47 bs

-- whether `*/` is somewhere
abbrev pub closes : List ℕ → Bool
closes [] = false
closes (b ∷ bs) = closes_here b bs || closes bs

-- what comes before the first `*/`
abbrev pub before_close : List ℕ → List ℕ
before_close [] = []
before_close (b ∷ bs) = if closes_here b bs then [] else b ∷ before_close bs

abbrev pub is_line_end : ℕ → Bool
is_line_end b = b == 10

abbrev pub is_within_line : ℕ → Bool
is_within_line b = not (is_line_end b)

-- the line ends of a comment
abbrev pub line_ends : List ℕ → List ℕ
line_ends = filter is_line_end

-- The text, where the first `skip` bytes belong to the comment before. A `%` and the rest of its
-- line are one blank. From `/*` to the next `*/` it is one COMMENT, and the line ends in between. A
-- `/*` that nothing closes is UNCLOSED, and nothing follows it.
abbrev pub plain : ℕ → List ℕ → List ℕ
plain skip [] = []
plain (suc skip) (b ∷ bs) = plain skip bs
plain zero (b ∷ bs) =
    if b == 37 then 32 ∷ plain (length (take_while is_within_line bs)) bs
    else (if (b == 47) && first_is 42 bs then
    (if closes (drop 1 bs)
    then COMMENT ∷
    (line_ends (before_close (drop 1 bs)) ++ plain (3 + length (before_close (drop 1 bs))) bs)
    else UNCLOSED ∷ [])
    else as_text b ∷ plain zero bs)

-- what a comment by `/*`, from its star on, stands for, and the text after it
abbrev pub block : List ℕ → List ℕ
block bs =
    if closes (drop 1 bs)
    then COMMENT ∷
    (line_ends (before_close (drop 1 bs)) ++ plain (3 + length (before_close (drop 1 bs))) bs)
    else UNCLOSED ∷ []

abbrev pub plain_of : List ℕ → List ℕ
plain_of = plain zero

-- whether a byte that no text may have is outside of comments
abbrev pub has_bad : List ℕ → Bool
has_bad = list_any (λ b. b == BAD)
