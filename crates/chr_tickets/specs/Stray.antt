-- The marked tickets.
use Rattle.std.specs.Prelude.{ℕ, ◌≤◌, List}
use Rattle.chr_calls.specs.Tickets.{Ticket, IsStray}

-- no ticket is marked
abbrev pub NoneStray : List Ticket → Type 0
NoneStray tickets = (t : ℕ) → IsStray tickets t → ⊥

-- the least marked ticket
pub record IsFirstStray (tickets : List Ticket) (t : ℕ) : Type 0 where
  pub stray : IsStray tickets t
  pub least : (u : ℕ) → IsStray tickets u → t ≤ u
