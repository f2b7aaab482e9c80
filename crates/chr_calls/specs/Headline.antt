-- The headline: what holds of a book after any calls by any seats.
use Rattle.std.specs.Prelude.{◌≡◌, ℕ, ◌<◌, ◌≤◌, true, List, Some}
use Rattle.std.specs.List.{AllByRecursion}
use Rattle.std.specs.Option.{option_map}
use Rattle.chr_value.specs.Atoms.{Atom}
use Rattle.chr_log.specs.declared.events.Version.TheVariants.{Two}
use Rattle.chr_plan.specs.Plans.{ArePlans}
use Rattle.chr_model.specs.Stores.{Final, among}
use Rattle.chr_model.specs.Programs.{Instances}
use Rattle.chr_model.specs.Logs.{Lawful, firings, posted_by, removed_by, times}
use Rattle.chr_model.specs.Abstract.{AbstractRun}
use Rattle.chr_model.specs.Goals.{start, erase, Numbered}
use Rattle.chr_model.specs.Searches.{YoungestAreGoals}
use Rattle.chr_search.specs.Positions.{at_or_after}
use Rattle.chr_search.specs.Verdicts.{Trial, position, labels, IsFormed, WasTrialOf}
use Rattle.chr_search.specs.Reach.{Searching}
use Rattle.chr_calls.specs.Tickets.{Ticket, ticket_at, AreQuiet}
use Rattle.chr_calls.specs.Books.{BookState, goal_state, events, space_of}
use Rattle.chr_calls.specs.Calls.{AreNamed}

-- Where these atoms were posted: the log is lawful, and store, next label and goals are those of
-- the state after it; with labels erased its firings are an abstract run from the atoms posted; no
-- label is removed twice; and where no goal is open, no rule applies to the store.
pub record Headline (b : BookState) (posts : List (Atom ℕ)) : Type 0 where
  pub lawful : Lawful Two (Instances b.rules) (events b) (goal_state b)
  pub posts_are : posted_by (events b) ≡ posts
  pub run : AbstractRun (Instances b.rules) posts
      (firings Two (Instances b.rules) (events b) start (goal_state b) lawful)
      (erase (goal_state b))
  pub once : (l : ℕ) → times l (removed_by (events b)) ≤ 1
  pub final : AreQuiet b.tickets → Final (Instances b.rules) b.store

-- what is kept of a ticket's candidate, whose active label is l: each of its labels was given, and
-- has its atom in the store or has left it
pub record IsCandidate (b : BookState) (l : ℕ) (trial : Trial) : Type 0 where
  pub formed : IsFormed trial
  pub was : WasTrialOf b.rules b.plans b.store trial
  pub active : among (labels trial) l ≡ true
  pub given : AllByRecursion (λ p. p.label < b.next) trial.placed

-- the candidate of a ticket is at or after the position of its search
abbrev pub IsAhead : Ticket → Type 0
IsAhead x =
    (trial : Trial) → x.candidate ≡ Some trial → at_or_after x.position (position trial) ≡ true

-- What a book keeps, so that its drops are lawful: no trial of the reach of a numbered goal lies
-- before the position of its search, whose candidate is at or after it and before every other
-- admissible trial from there on; and the youngest label of each labelled instance over the store
-- is a numbered goal. And the table has all names of the log: those of the atoms posted.
pub record IsKept (b : BookState) : Type 0 where
  pub plans : ArePlans b.rules b.plans
  pub lawful : Lawful Two (Instances b.rules) (events b) (goal_state b)
  pub given : (t l : ℕ) → (ticket_at b.tickets t).goal ≡ Numbered l → l < b.next
  pub searching : (t l : ℕ) → (ticket_at b.tickets t).goal ≡ Numbered l →
      Searching (space_of b l) (ticket_at b.tickets t).position
      (option_map position (ticket_at b.tickets t).candidate)
  pub candidates : (t l : ℕ) (trial : Trial) → (ticket_at b.tickets t).goal ≡ Numbered l →
      (ticket_at b.tickets t).candidate ≡ Some trial → IsCandidate b l trial
  pub ahead : (t : ℕ) → IsAhead (ticket_at b.tickets t)
  pub youngest : YoungestAreGoals (Instances b.rules) (goal_state b)
  pub named : AreNamed b (posted_by (events b))
