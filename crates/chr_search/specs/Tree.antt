-- A tree whose nodes are lists of numbers, and the least node at or after a position.
use Rattle.std.specs.Prelude.{◌≡◌, ℕ, ◌≤◌, true, List, [], ◌∷◌, ◌++◌, length}
use Rattle.chr_search.specs.Positions.{at_or_after}

-- with which numbers a list may go on
abbrev pub Children : Type 1
Children = List ℕ → ℕ → Type 0

-- a list may go on with these, one after another
abbrev pub Grows : Children → List ℕ → List ℕ → Type 0
Grows C path [] = Unit {0}
Grows C path (x ∷ more) = C path x × Grows C (path ++ x ∷ []) more

-- a list may go on so, to at least d numbers, at or after a place
pub record Beyond (C : Children) (d : ℕ) (path place more : List ℕ) : Type 0 where
  pub grows : Grows C path more
  pub deep : d ≤ length (path ++ more)
  pub there : at_or_after place more ≡ true

-- the least of these
pub record Least (C : Children) (d : ℕ) (path place found : List ℕ) : Type 0 where
  pub more : List ℕ
  pub is : found ≡ path ++ more
  pub beyond : Beyond C d path place more
  pub least : (other : List ℕ) → Beyond C d path place other → at_or_after more other ≡ true

-- there is none
abbrev pub NoneBeyond : Children → ℕ → List ℕ → List ℕ → Type 0
NoneBeyond C d path place = (other : List ℕ) → Beyond C d path place other → ⊥

-- the least number from one on of which something holds, and none
pub record LeastFrom (P : ℕ → Type 0) (from x : ℕ) : Type 0 where
  pub holds : P x
  pub there : from ≤ x
  pub least : (y : ℕ) → P y → from ≤ y → x ≤ y

abbrev pub NoneFrom : (ℕ → Type 0) → ℕ → Type 0
NoneFrom P from = (y : ℕ) → P y → from ≤ y → ⊥
