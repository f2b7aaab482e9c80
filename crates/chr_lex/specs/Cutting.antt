-- The items of a text without comments, as the grammar has them.
use Rattle.std.specs.Prelude.{◌≡◌, ℕ, true, false, List, [], ◌∷◌, ◌++◌}
use Rattle.chr_lex.specs.Comments.{Plain}
use Rattle.chr_lex.specs.Items.{Item, is_gap, begins_with_layout, line_after, lines_after, BeginsItem}

-- There is no end point in these bytes: a point in them comes before something else than layout or
-- the end of the text.
abbrev pub NoEnd : List ℕ → List ℕ → Type 0
NoEnd inner rest =
    (front back : List ℕ) → inner ≡ front ++ 46 ∷ back → begins_with_layout (back ++ rest) ≡ true →
    ⊥

-- The text that begins at the line has these items. An item begins at the first byte that is
-- neither layout nor a comment, and ends with the first end point or, cut short, with the text.
pub data Items : ℕ → List ℕ → List Item → Type 0 where
  no_more : (line : ℕ) → Items line [] []
  gap : (line b : ℕ) (bs : List ℕ) (es : List Item) → is_gap b ≡ true →
      Items (line_after b line) bs es → Items line (b ∷ bs) es
  ended : (line : ℕ) (inner rest : List ℕ) (es : List Item) → BeginsItem (inner ++ 46 ∷ rest) →
      NoEnd inner (46 ∷ rest) → begins_with_layout rest ≡ true →
      Items (lines_after inner line) rest es
      → Items line (inner ++ 46 ∷ rest) (record { line = line; bytes = inner; ended = true } ∷ es)
  cut : (line b : ℕ) (bs : List ℕ) → is_gap b ≡ false → NoEnd (b ∷ bs) [] →
      Items line (b ∷ bs) (record { line = line; bytes = b ∷ bs; ended = false } ∷ [])

-- The text, comments and all, has these items. Its first line is line 1.
pub record HasItems (bs : List ℕ) (es : List Item) : Type 0 where
  pub out : List ℕ
  pub replaced : Plain bs out
  pub items : Items 1 out es
