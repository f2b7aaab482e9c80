-- Which tickets a run pushes on the hands of its pool, and what the pool counts.
use Rattle.std.specs.Prelude.{◌≡◌, ◌↔◌, ℕ, ◌*◌, ◌≤◌, List, ◌++◌, map, length, All, Contains, IsPermutation}
use Rattle.std.specs.List.{flat_map}
use Rattle.std.specs.List.Sorted.{IsStrictlyIncreasing}
use Rattle.chr_calls.specs.Tickets.{Ticket, state_of, IsClaimable}
use Rattle.chr_pool.specs.declared.hand.Hand.{Hand}
use Rattle.chr_pool.specs.declared.pool.Tally.{Tally}
use Rattle.chr_pool.specs.Hands.{hand_capacity, hand_pushed}

-- exactly those of the tickets that wait or rest, rising
pub record AreFree (tickets : List Ticket) (free : List ℕ) : Type 0 where
  pub rising : IsStrictlyIncreasing free
  pub exactly : (t : ℕ) → Contains free t ↔ IsClaimable (state_of tickets t)

-- each hand takes its part of so many tickets, dealt in turn, without a request for memory
abbrev pub HaveRoom : ℕ → List (Hand ℕ) → Type 0
HaveRoom count hands = All (λ capacity. count ≤ length hands * capacity) (map hand_capacity hands)

-- the hand has pushed what it had pushed before, and perhaps more after that
abbrev pub HasPushedOn : Hand ℕ → Hand ℕ → Type 0
HasPushedOn old new = (more : List ℕ) × (hand_pushed new ≡ hand_pushed old ++ more)

-- the hands have pushed these tickets, and perhaps others
abbrev pub HavePushed : List ℕ → List (Hand ℕ) → Type 0
HavePushed tickets hands =
    (others : List ℕ) × IsPermutation (tickets ++ others) (flat_map hand_pushed hands)

-- the tally of a pool on which these tickets were pushed: each of them was taken or is left
pub record IsTallyOf (pushed : List ℕ) (tally : Tally ℕ) : Type 0 where
  pub count : tally.pushed ≡ length pushed
  pub taken : List ℕ
  pub count_taken : tally.taken ≡ length taken
  pub each : IsPermutation pushed (taken ++ tally.left.items)

-- the tally of a run on a book with these tickets: those that wait or rest were pushed, each once,
-- and then others, of firings
pub record IsTallied (tickets : List Ticket) (tally : Tally ℕ) : Type 0 where
  pub dealt : List ℕ
  pub are_free : AreFree tickets dealt
  pub fired : List ℕ
  pub all : IsTallyOf (dealt ++ fired) tally
