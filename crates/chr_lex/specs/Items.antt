-- The items of a text without comments.
use Rattle.std.specs.Prelude.{◌≡◌, ℕ, zero, suc, ◌+◌, Bool, true, false, List, [], ◌∷◌, length, ◌==◌, ◌&&◌, ◌||◌, if◌then◌else◌}
use Rattle.chr_lex.specs.declared.plain.TheConstants.{COMMENT}
use Rattle.chr_lex.specs.declared.item.Item.{Item as CodeItem}
use Rattle.chr_lex.specs.Plain.{is_layout, plain_of}

-- an item without its end point, and whether it has one
pub record Item : Type 0 where
  pub line : ℕ
  pub bytes : List ℕ
  pub ended : Bool

abbrev pub is_gap : ℕ → Bool
is_gap b = is_layout b || (b == COMMENT)

abbrev pub begins_with_layout : List ℕ → Bool
begins_with_layout [] = true
begins_with_layout (b ∷ bs) = is_layout b

-- a point before layout or before the end of the text
abbrev pub is_end : ℕ → List ℕ → Bool
is_end b bs = (b == 46) && begins_with_layout bs

abbrev pub before_end : List ℕ → List ℕ
before_end [] = []
before_end (b ∷ bs) = if is_end b bs then [] else b ∷ before_end bs

abbrev pub has_end : List ℕ → Bool
has_end [] = false
has_end (b ∷ bs) = is_end b bs || has_end bs

abbrev pub line_after : ℕ → ℕ → ℕ
line_after b line = if b == 10 then line + 1 else line

-- The items, where the first `skip` bytes belong to the item before.
abbrev pub items : ℕ → ℕ → List ℕ → List Item
items skip line [] = []
items (suc skip) line (b ∷ bs) = items skip (line_after b line) bs
items zero line (b ∷ bs) =
    if is_gap b then items zero (line_after b line) bs
    else record { line = line; bytes = before_end (b ∷ bs); ended = has_end (b ∷ bs) } ∷
    items (length (before_end (b ∷ bs))) line bs

-- nothing, or the first byte of an item
abbrev pub BeginsItem : List ℕ → Type 0
BeginsItem [] = Unit {0}
BeginsItem (b ∷ bs) = is_gap b ≡ false

-- the line that is reached over the bytes
abbrev pub lines_after : List ℕ → ℕ → ℕ
lines_after [] line = line
lines_after (b ∷ bs) line = lines_after bs (line_after b line)

abbrev pub entry : CodeItem → Item
entry i = record { line = i.line; bytes = i.text.now; ended = i.ended }

-- the items of a text, comments and all
abbrev pub items_of : List ℕ → List Item
items_of bytes = items zero 1 (plain_of bytes)
