-- The rows that predicates have in tables.
use Rattle.std.specs.Prelude.{ℕ, ◌+◌, ◌*◌, ◌&&◌, if◌then◌else◌, List, [], Option, Some, None, nat_lt, slice_index_or}
use Rattle.chr_value.specs.declared.atom.Pred.{Pred}

-- how many rows a table has at most: nine for each of 1,024 names
abbrev pub most_rows : ℕ
most_rows = 9216

-- the row of a predicate whose name's number is low; nine rows a name, one for each number of
-- arguments
abbrev pub row_of : Pred → Option ℕ
row_of pred =
    if nat_lt pred.name.number 1024 && nat_lt pred.arity 9
    then Some (pred.name.number * 9 + pred.arity) else None

-- the row that it would have if the names of all numbers had rows
abbrev pub place_of : Pred → Option ℕ
place_of pred = if nat_lt pred.arity 9 then Some (pred.name.number * 9 + pred.arity) else None

-- the labels in a row of a table, past its end none
abbrev pub row_at : List (List ℕ) → ℕ → List ℕ
row_at rows i = slice_index_or rows i []
