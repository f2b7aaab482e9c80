-- Where a picture's parts are, in pixels, and the colours of predicates.
use Rattle.std.specs.Prelude.{ℕ, ◌+◌, ◌-◌, ◌*◌, ◌==◌, ◌&&◌, min, max, nat_lt, if◌then◌else◌, Option, Some, None, List, [], ◌∷◌, ◌++◌, length, map}
use Rattle.std.specs.Fmt.{decimal}
use Rattle.chr_value.specs.Atoms.{by_texts}
use Rattle.chr_value.specs.Spelling.{spell}
use Rattle.chr_value.specs.declared.atom.Pred.{Pred}
use Rattle.chr_picture.specs.declared.picture.Row.{Row}
use Rattle.chr_picture.specs.declared.layout.Layout.{Layout}
use Rattle.chr_picture.specs.declared.words.Words.{Words}
use Rattle.chr_picture.specs.declared.words.Words.TheVariants as w
use Rattle.chr_picture.specs.Words.{words}

-- the height of a row, and the width of a letter
abbrev pub row_height : ℕ
row_height = 16

abbrev pub letter_width : ℕ
letter_width = 7

-- the most rows of a picture, and the last place that a row or a line below the rows may have
abbrev pub most_rows : ℕ
most_rows = 10000

abbrev pub most_places : ℕ
most_places = 30000

-- so many letters of a label and its atom have room
abbrev pub most_letters : ℕ
most_letters = 640

-- how wide a column is, by how many there are
abbrev pub step_of : ℕ → ℕ
step_of count =
    if nat_lt count 41 then 24
    else (if nat_lt count 101 then 10 else (if nat_lt count 161 then 7 else 4))

-- of how many entries one has its number below the rows
abbrev pub every_of : ℕ → ℕ
every_of count = if nat_lt count 41 then 1 else 10

-- a label with its atom
abbrev pub label_text : {Z : Type 0} → List (List ℕ) → Row Z → List ℕ
label_text table r =
    words w.Hash ++ (decimal r.label ++ (words w.Blank ++ spell (by_texts table r.atom)))

-- how far from where the columns begin a bar begins, by the column that gives its constraint
abbrev pub offset : ℕ → Option ℕ → ℕ
offset step None = 0
offset step (Some column) = (column + 1) * step

-- how far to the left of where the columns begin so many letters before a bar go
abbrev pub room : ℕ → ℕ → Option ℕ → ℕ
room letters step since = letter_width * min letters most_letters - offset step since

-- the most that the names of rows need, or so_far
abbrev pub most_room : {Z : Type 0} → List (List ℕ) → ℕ → ℕ → List (Row Z) → ℕ
most_room table step so_far [] = so_far
most_room table step so_far (r ∷ rs) =
    most_room table step (max (room (length (label_text table r)) step r.since) so_far) rs

-- the middle of a column
abbrev pub x_of : Layout → ℕ → ℕ
x_of a column = a.left + (column + 1) * a.step

-- the middle of a row, by its place
abbrev pub y_of : ℕ → ℕ
y_of place = 20 + row_height * min place most_places

-- where a constraint's bar begins and ends: at the columns that give and remove it, or else where
-- all columns do
abbrev pub begin_of : Layout → Option ℕ → ℕ
begin_of a None = a.left
begin_of a (Some column) = x_of a column

abbrev pub end_of : Layout → Option ℕ → ℕ
end_of a None = x_of a a.count
end_of a (Some column) = x_of a column

-- the number of a column's entry in the log, from 1
abbrev pub entry_at : Layout → ℕ → ℕ
entry_at a column = a.before + column + 1

-- a predicate: its name and how many arguments it has
abbrev pub pair_of : Pred → ℕ × ℕ
pair_of p = (p.name.number, p.arity)

abbrev pub pairs_of : List Pred → List (ℕ × ℕ)
pairs_of ps = map pair_of ps

abbrev pub predicate : {Z : Type 0} → Row Z → ℕ × ℕ
predicate r = (r.atom.name, length r.atom.args)

-- its place among predicates, which is past the last one where it isn't among them
abbrev pub index_of : List (ℕ × ℕ) → ℕ × ℕ → ℕ
index_of [] q = 0
index_of (p ∷ ps) q = if (p.0 == q.0) && (p.1 == q.1) then 0 else index_of ps q + 1

-- eight colours that most eyes tell apart (Okabe and Ito), in turn
unfoldable pub colour : ℕ → Words
colour n =
    if n == 0 then w.Blue
    else (if n == 1 then w.Orange
    else (if n == 2 then w.Green
    else (if n == 3 then w.Pink
    else (if n == 4 then w.Sky
    else (if n == 5 then w.Vermilion else (if n == 6 then w.Olive else (w.Grey)))))))
