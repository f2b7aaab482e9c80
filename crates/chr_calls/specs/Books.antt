-- The state of a book: rules with their plans, names, a store, the log, and the tickets.
use Rattle.std.specs.Prelude.{◌≡◌, ℕ, List, [], ◌∷◌, ◌++◌, map, Some, slice_set}
use Rattle.chr_value.specs.Atoms.{Atom}
use Rattle.chr_value.specs.Naming.{Table}
use Rattle.chr_rule.specs.Rules.{Simpagation}
use Rattle.chr_log.specs.Events.{Entry, Event}
use Rattle.chr_plan.specs.Plans.{PlanList}
use Rattle.chr_model.specs.Stores.{Store, atom_at}
use Rattle.chr_model.specs.Goals.{State}
use Rattle.chr_search.specs.Trials.{Space, older}
use Rattle.chr_calls.specs.Tickets.{Ticket, ended}

-- A book: no label above the limit is given, and the next label comes next.
pub record BookState : Type 0 where
  pub rules : List (Simpagation ℕ)
  pub plans : PlanList
  pub names : List (List ℕ)
  pub limit : ℕ
  pub log : List (Entry ℕ)
  pub store : Store
  pub next : ℕ
  pub tickets : List Ticket

-- a book of these rules and names: no ticket, no entry, an empty store, and the next label is 1
abbrev pub opened : List (Simpagation ℕ) → PlanList → List (List ℕ) → ℕ → BookState
opened rules plans names limit =
    record {
      rules = rules;
      plans = plans;
      names = names;
      limit = limit;
      log = [];
      store = [];
      next = 1;
      tickets = ended ∷ [];
    }

-- its goal state, and what its log says without seats
abbrev pub goal_state : BookState → State
goal_state b = record { goals = map (λ x. x.goal) b.tickets; store = b.store; next = b.next }

abbrev pub events : BookState → List (Event ℕ)
events b = map (λ e. e.event) b.log

-- what the search of a label looks through: its partners are older than it
abbrev pub space_of : BookState → ℕ → Space
space_of b l = older b.rules b.plans b.store l

abbrev pub IsLive : BookState → ℕ → Type 0
IsLive b l = (atom : Atom ℕ) × (atom_at b.store l ≡ Some atom)

-- the book with another table of names
abbrev pub with_names : BookState → Table → BookState
with_names b table = record b { names = table }

-- the book with other tickets, with another record of a ticket, and with an entry more
abbrev pub with_tickets : BookState → List Ticket → BookState
with_tickets b tickets = record b { tickets = tickets }

abbrev pub with_ticket : BookState → ℕ → Ticket → BookState
with_ticket b t x = with_tickets b (slice_set b.tickets t x)

abbrev pub with_entry : BookState → ℕ → Event ℕ → BookState
with_entry b seat event = record b { log = b.log ++ record { event = event; seat = seat } ∷ [] }
