-- Comments from left to right, as the grammar has them.
use Rattle.std.specs.Prelude.{◌≡◌, ℕ, Bool, true, false, List, [], ◌∷◌, ◌++◌, ◌==◌, ◌&&◌, ◌||◌}
use Rattle.std.specs.List.{list_all}
use Rattle.chr_lex.specs.declared.plain.TheConstants.{COMMENT, UNCLOSED}
use Rattle.chr_lex.specs.Plain.{as_text, first_is, is_line_end, is_within_line, line_ends}

abbrev pub begins_comment : ℕ → List ℕ → Bool
begins_comment b bs = (b == 37) || ((b == 47) && first_is 42 bs)

-- the line ends here, or the text
abbrev pub ends_line : List ℕ → Bool
ends_line [] = true
ends_line (b ∷ bs) = is_line_end b

-- there is no `*/` in these bytes
abbrev pub NoClose : List ℕ → Type 0
NoClose bs = (front back : List ℕ) → bs ≡ front ++ 42 ∷ 47 ∷ back → ⊥

-- The text is the other one once its comments are replaced. A comment by `%` goes to the end of its
-- line, one by `/*` to the next `*/`, whose star is not that of the `/*`, or, where none comes, to
-- the end of the text.
pub data Plain : List ℕ → List ℕ → Type 0 where
  nothing : Plain [] []
  code : (b : ℕ) (bs out : List ℕ) → begins_comment b bs ≡ false → Plain bs out →
      Plain (b ∷ bs) (as_text b ∷ out)
  to_line_end : (comment bs out : List ℕ) → list_all is_within_line comment ≡ true →
      ends_line bs ≡ true → Plain bs out → Plain (37 ∷ (comment ++ bs)) (32 ∷ out)
  closed : (comment bs out : List ℕ) → NoClose (comment ++ 42 ∷ []) → Plain bs out →
      Plain (47 ∷ 42 ∷ (comment ++ 42 ∷ 47 ∷ bs)) (COMMENT ∷ (line_ends comment ++ out))
  unclosed : (bs : List ℕ) → NoClose bs → Plain (47 ∷ 42 ∷ bs) (UNCLOSED ∷ [])
