-- Goals over a store (in the manner of Lam and Sulzmann). Tickets, numbered from 1, tell goals
-- apart: that is this project's.
use Rattle.std.specs.Prelude.{◌≡◌, ℕ, List, [], ◌∷◌, ◌++◌, slice_index_or}
use Rattle.chr_value.specs.Atoms.{Atom}
use Rattle.chr_model.specs.Stores.{Store, atoms}

-- A goal: a plain goal, which is an atom that waits outside the store; a numbered goal, which is
-- the label of its atom in the store; or a goal that has ended.
pub data Goal : Type 0 where
  Plain : Atom ℕ → Goal
  Numbered : ℕ → Goal
  Ended : Goal

-- A goal state. The goal of ticket t is at place t; at place 0 is one that has ended.
pub record State : Type 0 where
  pub goals : List Goal
  pub store : Store
  pub next : ℕ

-- nothing is posted, the store is empty, and the next label is 1
abbrev pub start : State
start = record { goals = Ended ∷ []; store = []; next = 1 }

abbrev pub goal_at : State → ℕ → Goal
goal_at s t = slice_index_or s.goals t Ended

-- the label is a numbered goal
abbrev pub IsNumbered : State → ℕ → Type 0
IsNumbered s l = (t : ℕ) × (goal_at s t ≡ Numbered l)

-- Quiet: no goal is open, plain or numbered.
abbrev pub Quiet : State → Type 0
Quiet s = (t : ℕ) → goal_at s t ≡ Ended

-- the plain goals
abbrev pub plain_goals : List Goal → List (Atom ℕ)
plain_goals [] = []
plain_goals (Plain a ∷ gs) = a ∷ plain_goals gs
plain_goals (Numbered l ∷ gs) = plain_goals gs
plain_goals (Ended ∷ gs) = plain_goals gs

-- the labels of the numbered goals
abbrev pub numbered_goals : List Goal → List ℕ
numbered_goals [] = []
numbered_goals (Plain a ∷ gs) = numbered_goals gs
numbered_goals (Numbered l ∷ gs) = l ∷ numbered_goals gs
numbered_goals (Ended ∷ gs) = numbered_goals gs

-- Erasure: a state with labels forgotten is the multiset of its plain goals and of its store's
-- atoms.
abbrev pub erase : State → List (Atom ℕ)
erase s = plain_goals s.goals ++ atoms s.store
