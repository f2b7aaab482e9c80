-- Variables by their numbers, in the order in which they are seen.
use Rattle.std.specs.Prelude.{ℕ, ◌++◌, ◌∷◌, [], List, length, if◌then◌else◌}
use Rattle.std.specs.List.{position_or_len}
use Rattle.std.specs.Str.{bytes_eq}
use Rattle.chr_limits.specs.Variables.{is_seen}

-- the variables seen so far, each at the place of its number
abbrev pub Seen : Type 0
Seen = List (List ℕ)

-- a variable's number, and the variables seen with it; `_` is a new one at each place
abbrev pub number_variable : Seen → List ℕ → ℕ × Seen
number_variable seen x =
    if is_seen seen x then (position_or_len (bytes_eq x) seen, seen)
    else (length seen, seen ++ x ∷ [])

-- each in turn, over what was seen before it
abbrev pub in_turn : {A B : Type 0} → (Seen → A → B × Seen) → Seen → List A → List B × Seen
in_turn f seen [] = ([], seen)
in_turn f seen (a ∷ as') =
    ((f seen a).0 ∷ (in_turn f (f seen a).1 as').0, (in_turn f (f seen a).1 as').1)

-- the numbers of the variables at places, one place after another
abbrev pub numbers : List (List ℕ) → List ℕ
numbers names = (in_turn number_variable [] names).0
