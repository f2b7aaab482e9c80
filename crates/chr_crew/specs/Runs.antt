-- What a run of a crew leaves of a book, and what is kept of it before.
use Rattle.std.specs.Prelude.{◌≡◌, ◌<◌, ◌≤◌, ℕ, List, ◌++◌, map, length}
use Rattle.std.specs.List.{AllByRecursion}
use Rattle.chr_rule.specs.Scope.{IsRule}
use Rattle.chr_log.specs.Events.{Entry}
use Rattle.chr_log.specs.declared.events.Version.TheVariants.{Two}
use Rattle.chr_model.specs.Goals.{Ended}
use Rattle.chr_model.specs.Programs.{Instances}
use Rattle.chr_model.specs.Steps.{Run}
use Rattle.chr_calls.specs.Tickets.{Ticket, ticket_at, IsNotHeld}
use Rattle.chr_calls.specs.Books.{BookState, goal_state}
use Rattle.chr_book.specs.Shots.{IsWork, IsShotOf}
use Rattle.chr_seats.specs.Holds.{HasHeadline}
use Rattle.chr_crew.specs.declared.before.Before.{Before}

-- no ticket is lost, and one that has ended stays so
pub record KeepsTickets (b n : List Ticket) : Type 0 where
  pub all : length b ≤ length n
  pub ended : (t : ℕ) → t < length b → (ticket_at b t).goal ≡ Ended → (ticket_at n t).goal ≡ Ended

-- The book has the rules, the names and the limit of the one before. Its log is that one's and then
-- entries of the seats from 1 to `workers`, none of them a post. These lead from that one's goals,
-- store and next label to its own, so it has that one's tickets, and perhaps more.
pub record IsWorkedOn (workers : ℕ) (b n : BookState) : Type 0 where
  pub rules : n.rules ≡ b.rules
  pub names : n.names ≡ b.names
  pub limit : n.limit ≡ b.limit
  pub more : List (Entry ℕ)
  pub log : n.log ≡ b.log ++ more
  pub work : AllByRecursion (IsWork workers) more
  pub run : Run Two (Instances b.rules) (goal_state b) (map (λ e. e.event) more) (goal_state n)
  pub tickets : KeepsTickets b.tickets n.tickets

-- no seat from 1 to `workers` holds a ticket
abbrev pub NoneHeld : ℕ → List Ticket → Type 0
NoneHeld workers tickets = (t seat : ℕ) → 1 ≤ seat → seat ≤ workers → IsNotHeld tickets seat t

-- these are a shot of the book, its names and its limit; and the book has the headline, and rules
-- that a program may have
pub record IsKeptOf {Z : Type 0} (b : BookState) (before : Before Z) : Type 0 where
  pub shot : IsShotOf b before.shot
  pub names : before.names ≡ b.names
  pub limit : before.limit ≡ b.limit
  pub headline : HasHeadline b
  pub valid : AllByRecursion IsRule b.rules
