-- A book from its parts.
use Rattle.std.specs.Prelude.{◌≡◌, ℕ, List}
use Rattle.chr_rule.specs.Rules.{Simpagation}
use Rattle.chr_log.specs.Events.{Entry}
use Rattle.chr_plan.specs.Plans.{PlanList, ArePlans}
use Rattle.chr_store.specs.Labels.{LabelledStore}
use Rattle.chr_search.specs.Reach.{SearchState}
use Rattle.chr_search.specs.Trials.{NoneLeft}
use Rattle.chr_calls.specs.Tickets.{Ticket, ticket_at, Holds}
use Rattle.chr_calls.specs.Books.{BookState, opened, space_of, IsLive}
use Rattle.chr_text.specs.Named.{RulesAreNamed}

abbrev pub book_of : List (Simpagation ℕ) → PlanList → List (List ℕ) → List (Entry ℕ) →
    LabelledStore → List Ticket → BookState
book_of rules plans names log store tickets =
    record {
      rules = rules;
      plans = plans;
      names = names;
      limit = store.limit;
      log = log;
      store = store.entries;
      next = store.next;
      tickets = tickets;
    }

-- the book as it is opened, with the plans of its rules
pub record IsOpened (rules : List (Simpagation ℕ)) (names : List (List ℕ)) (limit : ℕ)
    (b : BookState) : Type 0 where
  pub plans : PlanList
  pub are_plans : ArePlans rules plans
  pub named : RulesAreNamed names rules
  pub is : b ≡ opened rules plans names limit

-- the seat holds the ticket, and this is its search
pub record IsHeldSearch (tickets : List Ticket) (seat t : ℕ) (search : SearchState) : Type 0 where
  pub holds : Holds tickets seat t search.label
  pub place : search.place ≡ (ticket_at tickets t).position

-- its label is live, and a trial is left
pub record HasTrialLeft (b : BookState) (search : SearchState) : Type 0 where
  pub live : IsLive b search.label
  pub left : NoneLeft (space_of b search.label) search.place → ⊥
