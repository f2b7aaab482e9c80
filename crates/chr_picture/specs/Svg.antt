-- The text of a picture as an SVG. Attributes stand in single quotes; names need no escapes, for
-- they are letters, digits and _.
use Rattle.std.specs.Prelude.{ℕ, zero, suc, ◌+◌, ◌-◌, ◌*◌, ◌%◌, ◌==◌, max, if◌then◌else◌, Option, Some, None, List, [], ◌∷◌, ◌++◌, length}
use Rattle.std.specs.List.{flat_map}
use Rattle.std.specs.Fmt.{decimal}
use Rattle.chr_value.specs.Atoms.{text_of}
use Rattle.chr_picture.specs.declared.picture.Row.{Row}
use Rattle.chr_picture.specs.declared.picture.Firing.{Firing}
use Rattle.chr_picture.specs.declared.picture.Picture.{Picture}
use Rattle.chr_picture.specs.declared.layout.Layout.{Layout}
use Rattle.chr_picture.specs.declared.words.Words.{Words}
use Rattle.chr_picture.specs.declared.words.Words.TheVariants as w
use Rattle.chr_picture.specs.Words.{words}
use Rattle.chr_picture.specs.Pictures.{place_of, removal}
use Rattle.chr_picture.specs.Layouts.{most_room, step_of, every_of, x_of, y_of, begin_of, end_of, entry_at, predicate, index_of, colour, label_text}

-- the numbered line of every column whose entry's number is a multiple of `every`
abbrev pub tick : Layout → ℕ → ℕ → List ℕ
tick a bottom column =
    words w.TickLine ++
    (decimal (x_of a column) ++
    (words w.TickDown ++
    (decimal bottom ++
    (words w.TickNumber ++
    (decimal (x_of a column) ++
    (words w.AtY ++
    (decimal (bottom + 12) ++
    (words w.Inside ++ (decimal (entry_at a column) ++ words w.TextLineEnd)))))))))

abbrev pub tick_or_none : Layout → ℕ → ℕ → ℕ → List ℕ
tick_or_none a every bottom column =
    if (entry_at a column % every) == 0 then tick a bottom column else []

-- the columns from one on, as many as n
abbrev pub ticks : Layout → ℕ → ℕ → ℕ → ℕ → List ℕ
ticks a every bottom column zero = []
ticks a every bottom column (suc n) =
    tick_or_none a every bottom column ++ ticks a every bottom (column + 1) n

-- from which entry to which a constraint is there
abbrev pub since_words : Layout → Option ℕ → List ℕ
since_words a (Some column) = words w.ActivatedBy ++ decimal (entry_at a column)
since_words a None = words w.InStoreBefore ++ decimal (entry_at a 0)

abbrev pub until_words : Layout → Option ℕ → List ℕ
until_words a (Some column) = words w.RemovedBy ++ decimal (entry_at a column)
until_words a None = []

-- a constraint's name before its bar, which begins at `from`
abbrev pub row_name : ℕ → ℕ → List ℕ → List ℕ
row_name from place text =
    words w.RowName ++
    (decimal (from - 6) ++
    (words w.AtY ++ (decimal (y_of place + 4) ++ (words w.Inside ++ (text ++ words w.TextEnd)))))

-- its bar
abbrev pub bar : ℕ → ℕ → ℕ → Words → List ℕ
bar from to place fill =
    words w.Bar ++
    (decimal from ++
    (words w.AtY ++
    (decimal (y_of place - 4) ++
    (words w.Wide ++ (decimal (to - from) ++ (words w.Filled ++ (words fill ++ words w.Inside)))))))

abbrev pub row_title : Layout → List ℕ → Option ℕ → Option ℕ → List ℕ
row_title a text since until =
    words w.Title ++ (text ++ (since_words a since ++ (until_words a until ++ words w.BarEnd)))

-- a row: its name and its bar, whose title says what it is
abbrev pub row_text : {Z : Type 0} → List (List ℕ) → Layout → List (ℕ × ℕ) → List Firing → ℕ →
    Row Z → List ℕ
row_text table a preds firings place r =
    row_name (begin_of a r.since) place (label_text table r) ++
    (bar (begin_of a r.since) (end_of a (removal firings r.label)) place
    (colour (index_of preds (predicate r) % 8)) ++
    row_title a (label_text table r) r.since (removal firings r.label))

-- rows, of which the first has the place
abbrev pub rows_text : {Z : Type 0} → List (List ℕ) → Layout → List (ℕ × ℕ) → List Firing → ℕ →
    List (Row Z) → List ℕ
rows_text table a preds firings place [] = []
rows_text table a preds firings place (r ∷ rs) =
    row_text table a preds firings place r ++ rows_text table a preds firings (place + 1) rs

-- a firing's line goes through the rows of these labels
abbrev pub point : {Z : Type 0} → List (Row Z) → ℕ → ℕ → List ℕ
point rows x l = decimal x ++ (words w.Comma ++ (decimal (y_of (place_of rows l)) ++ words w.Blank))

abbrev pub points : {Z : Type 0} → List (Row Z) → ℕ → List ℕ → List ℕ
points rows x ls = flat_map (point rows x) ls

-- a mark in the row of each
abbrev pub mark : {Z : Type 0} → List (Row Z) → Words → ℕ → ℕ → List ℕ
mark rows fill x l =
    words w.Mark ++
    (words fill ++
    (words w.CentreX ++
    (decimal x ++ (words w.CentreY ++ (decimal (y_of (place_of rows l)) ++ words w.End)))))

abbrev pub marks : {Z : Type 0} → List (Row Z) → Words → ℕ → List ℕ → List ℕ
marks rows fill x ls = flat_map (mark rows fill x) ls

-- labels, each after a blank
abbrev pub named : ℕ → List ℕ
named l = words w.NextLabel ++ decimal l

abbrev pub names : List ℕ → List ℕ
names ls = flat_map named ls

abbrev pub heads : Firing → List ℕ
heads f =
    words w.KeptHeads ++ (names f.kept.items ++ (words w.RemovedHeads ++ names f.removed.items))

abbrev pub firing_title : Layout → Firing → List ℕ
firing_title a f =
    words w.FiringTitle ++
    (decimal (entry_at a f.column) ++
    (words w.ByRule ++ (decimal f.rule ++ (heads f ++ words w.TitleEnd))))

abbrev pub firing_line : {Z : Type 0} → List (Row Z) → ℕ → List ℕ → List ℕ → List ℕ
firing_line rows x kept removed =
    words w.FiringLine ++ (points rows x kept ++ (points rows x removed ++ words w.End))

-- a firing: a line through the rows of all heads, a white mark for each kept one and a black one
-- for each that is removed
abbrev pub firing_text : {Z : Type 0} → List (Row Z) → Layout → Firing → List ℕ
firing_text rows a f =
    firing_title a f ++
    (firing_line rows (x_of a f.column) f.kept.items f.removed.items ++
    (marks rows w.White (x_of a f.column) f.kept.items ++
    (marks rows w.Black (x_of a f.column) f.removed.items ++ words w.FiringEnd)))

abbrev pub firings_text : {Z : Type 0} → List (Row Z) → Layout → List Firing → List ℕ
firings_text rows a fs = flat_map (firing_text rows a) fs

-- the legend's line for a predicate: its colour and its name
abbrev pub swatch : Layout → ℕ → Words → List ℕ
swatch a y fill =
    words w.Swatch ++
    (decimal a.left ++
    (words w.AtY ++ (decimal (y - 4) ++ (words w.Filled ++ (words fill ++ words w.End)))))

abbrev pub legend_text : List (List ℕ) → ℕ → ℕ → ℕ × ℕ → List ℕ
legend_text table x y p =
    words w.Line ++
    (decimal x ++
    (words w.AtY ++
    (decimal y ++
    (words w.Inside ++
    (text_of table p.0 ++ (words w.Arity ++ (decimal p.1 ++ words w.TextLineEnd)))))))

abbrev pub legend_line : List (List ℕ) → Layout → ℕ → ℕ → ℕ × ℕ → List ℕ
legend_line table a top place p =
    swatch a (y_of (top + place)) (colour (place % 8)) ++
    legend_text table (a.left + 24) (y_of (top + place) + 4) p

abbrev pub legend : List (List ℕ) → Layout → ℕ → ℕ → List (ℕ × ℕ) → List ℕ
legend table a top place [] = []
legend table a top place (p ∷ ps) =
    legend_line table a top place p ++ legend table a top (place + 1) ps

-- what comes before all else
abbrev pub head_text : ℕ → ℕ → List ℕ
head_text width height =
    words w.Head ++
    (decimal width ++
    (words w.High ++
    (decimal height ++
    (words w.ViewBox ++
    (decimal width ++ (words w.Blank ++ (decimal height ++ words w.HeadEnd)))))))

-- which entries are drawn, of how many
abbrev pub caption : Layout → ℕ → ℕ → List ℕ
caption a total place =
    words w.Line ++
    (decimal a.left ++
    (words w.AtY ++
    (decimal (y_of place + 4) ++
    (words w.Entries ++
    (decimal (entry_at a 0) ++
    (words w.UpTo ++
    (decimal (a.before + a.count) ++
    (words w.OfAll ++ (decimal total ++ words w.TextLineEnd)))))))))

-- what the marks stand for
abbrev pub key_mark : Layout → ℕ → Words → List ℕ
key_mark a place fill =
    words w.Key ++
    (words fill ++
    (words w.CentreX ++ (decimal (a.left + 8) ++ (words w.CentreY ++ decimal (y_of place)))))

abbrev pub key : Layout → ℕ → Words → Words → List ℕ
key a place fill piece =
    key_mark a place fill ++
    (words w.KeyLine ++
    (decimal (a.left + 24) ++
    (words w.AtY ++
    (decimal (y_of place + 4) ++ (words w.Inside ++ (words piece ++ words w.TextLineEnd))))))

-- a predicate after others, if it isn't among them
abbrev pub with_predicate : List (ℕ × ℕ) → ℕ × ℕ → List (ℕ × ℕ)
with_predicate ps q = if index_of ps q == length ps then ps ++ q ∷ [] else ps

-- the predicates of rows after those of others, each once, in the order in which they come first
abbrev pub predicates_of : {Z : Type 0} → List (ℕ × ℕ) → List (Row Z) → List (ℕ × ℕ)
predicates_of ps [] = ps
predicates_of ps (r ∷ rs) = predicates_of (with_predicate ps (predicate r)) rs

-- where the columns of a picture are
abbrev pub layout_of : {Z : Type 0} → List (List ℕ) → Picture Z → Layout
layout_of table p =
    record {
      left = 16 + most_room table (step_of p.count) 0 p.rows.items;
      step = step_of p.count;
      count = p.count;
      before = p.before;
    }

abbrev pub width_of : Layout → ℕ
width_of a = a.left + max 320 ((a.count + 1) * a.step) + 16

-- the columns' lines and numbers, a row for each constraint, and the firings
abbrev pub plot : {Z : Type 0} → List (List ℕ) → Layout → List (ℕ × ℕ) → Picture Z → List ℕ
plot table a preds p =
    ticks a (every_of a.count) (y_of (length p.rows.items) - 8) 0 a.count ++
    (rows_text table a preds p.firings.items 0 p.rows.items ++
    firings_text p.rows.items a p.firings.items)

-- below n rows: the caption and the legend
abbrev pub below : List (List ℕ) → Layout → List (ℕ × ℕ) → ℕ → ℕ → List ℕ
below table a preds total n =
    caption a total (n + 1) ++
    (legend table a (n + 2) 0 preds ++
    (key a (n + length preds + 2) w.White w.Kept ++
    (key a (n + length preds + 3) w.Black w.Removed ++ words w.PictureEnd)))

-- a picture with its predicates
abbrev pub laid_out : {Z : Type 0} → List (List ℕ) → Layout → List (ℕ × ℕ) → Picture Z → List ℕ
laid_out table a preds p =
    head_text (width_of a) (y_of (length p.rows.items + length preds + 4)) ++
    (plot table a preds p ++ below table a preds p.total (length p.rows.items))

abbrev pub picture_text : {Z : Type 0} → List (List ℕ) → Picture Z → List ℕ
picture_text table p = laid_out table (layout_of table p) (predicates_of [] p.rows.items) p
