-- Variables that lie in a text, as their bytes.
use Rattle.std.specs.Prelude.{◌≡◌, ◌<◌, ℕ, List, length, map, Option, MatchOption}
use Rattle.std.specs.Borrow.{Bor}
use Rattle.chr_value.specs.Bounds.{most_variables}
use Rattle.chr_limits.specs.Variables.{seen_from}

abbrev pub names : List (Bor (List ℕ)) → List (List ℕ)
names = map (λ name. name.now)

-- the variables at some places were seen after those of `before`, or there are more than 24 then
abbrev pub Sees : Option (Unit {0}) → List (Bor (List ℕ)) → List (Bor (List ℕ)) → List (List ℕ) →
    Type 0
Sees answer before after places =
    MatchOption answer (most_variables < length (seen_from (names before) places))
    (λ _. names after ≡ seen_from (names before) places)
