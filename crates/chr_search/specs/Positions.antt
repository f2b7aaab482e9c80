-- Positions in the order of trials: lists of numbers, which are a rule, a head, and labels in plan
-- order.
use Rattle.std.specs.Prelude.{ℕ, ◌+◌, Bool, false, true, ◌&&◌, ◌||◌, ◌==◌, nat_lt, List, [], ◌∷◌, ◌++◌}

-- whether the second is the first or after it: place by place, and a beginning before what it
-- begins
abbrev pub at_or_after : List ℕ → List ℕ → Bool
at_or_after [] ys = true
at_or_after (x ∷ xs) [] = false
at_or_after (x ∷ xs) (y ∷ ys) = nat_lt x y || (x == y) && at_or_after xs ys

-- whether the first is a beginning of the second
abbrev pub begins : List ℕ → List ℕ → Bool
begins [] ys = true
begins (x ∷ xs) [] = false
begins (x ∷ xs) (y ∷ ys) = (x == y) && begins xs ys

-- the first position of all
abbrev pub beginning : List ℕ
beginning = 1 ∷ 1 ∷ []

-- the first position after t
abbrev pub just_after : List ℕ → List ℕ
just_after t = t ++ 0 ∷ []

-- the first position after t and all that it begins
abbrev pub past : List ℕ → List ℕ
past [] = []
past (x ∷ []) = (x + 1) ∷ []
past (x ∷ y ∷ ys) = x ∷ past (y ∷ ys)

-- all numbers but the last
abbrev pub front : List ℕ → List ℕ
front [] = []
front (x ∷ []) = []
front (x ∷ y ∷ ys) = x ∷ front (y ∷ ys)
