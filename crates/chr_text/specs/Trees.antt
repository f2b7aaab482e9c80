-- What a stack of terms says.
use Rattle.std.specs.Prelude.{ℕ, Bool, false, List, [], ◌∷◌, map, nat_lt, reverse}
use Rattle.chr_rule.specs.Parts.{argument}
use Rattle.chr_text.specs.declared.trees.PlacedTerm.{PlacedTerm}
use Rattle.chr_text.specs.Terms.{Placed}

abbrev pub placed : {Z : Type 0} → PlacedTerm Z → Placed ℕ
placed t = (t.depth, argument t.term)

-- the terms from the top of the stack
abbrev pub from_top : {Z : Type 0} → List (PlacedTerm Z) → List (Placed ℕ)
from_top ts = reverse (map placed ts)

-- the first term stands in more than d parentheses
abbrev pub is_deeper : {N : Type 0} → ℕ → List (Placed N) → Bool
is_deeper d [] = false
is_deeper d (t ∷ ts) = nat_lt d t.0
