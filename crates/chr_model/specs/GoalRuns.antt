-- Goal-based runs with tickets forgotten: goals are a multiset, and all posted atoms are plain
-- goals at the start.
use Rattle.std.specs.Prelude.{◌≡◌, ℕ, List, [], ◌∷◌, map, IsPermutation}
use Rattle.chr_value.specs.Atoms.{Atom}
use Rattle.chr_log.specs.Events.{Event, Post, Activate, Fire, Drop}
use Rattle.chr_log.specs.declared.events.Version.{Version}
use Rattle.chr_model.specs.Abstract.{Rules}
use Rattle.chr_model.specs.Goals.{Plain, Ended, State, plain_goals, numbered_goals}
use Rattle.chr_model.specs.Steps.{Step}

-- the state where these atoms are plain goals, the store is empty, and the next label is 1
abbrev pub opening : List (Atom ℕ) → State
opening atoms = record { goals = Ended ∷ map Plain atoms; store = []; next = 1 }

-- the same multisets of plain and of numbered goals, whatever their tickets, over the same store
pub record SameGoals (a b : State) : Type 0 where
  pub plain : IsPermutation (plain_goals a.goals) (plain_goals b.goals)
  pub numbered : IsPermutation (numbered_goals a.goals) (numbered_goals b.goals)
  pub store : a.store ≡ b.store
  pub next : a.next ≡ b.next

-- A goal-based run (in the manner of Lam and Sulzmann): steps, one after another. After each the
-- goals may take other tickets.
abbrev pub GoalRun : Version → Rules → State → List (Event ℕ) → State → Type 0
GoalRun v I s [] n = SameGoals s n
GoalRun v I s (e ∷ es) n =
    (middle : State) × (same : State) × Step v I s e middle × SameGoals middle same ×
    GoalRun v I same es n

-- the activations, firings and drops of a log, in order
abbrev pub unposted : List (Event ℕ) → List (Event ℕ)
unposted [] = []
unposted (Post t a ∷ es) = unposted es
unposted (Activate t l ∷ es) = Activate t l ∷ unposted es
unposted (Fire t r kept removed ∷ es) = Fire t r kept removed ∷ unposted es
unposted (Drop t ∷ es) = Drop t ∷ unposted es
