-- Tables of names, as the list of their texts.
use Rattle.std.specs.Prelude.{◌≡◌, ℕ, List, length, take}

abbrev pub Table : Type 0
Table = List (List ℕ)

-- the names of the first keep their numbers in the second
unfoldable pub Keeps : Table → Table → Type 0
Keeps old new = take (length old) new ≡ old
