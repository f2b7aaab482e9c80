-- Tickets: goals with what is known of each, and what a seat is told of them.
use Rattle.std.specs.Prelude.{◌≡◌, ℕ, zero, suc, ◌≤◌, Bool, true, false, List, [], length, nat_lt, Option, Some, None, if◌then◌else◌, slice_index_or, slice_set}
use Rattle.chr_value.specs.Atoms.{Atom}
use Rattle.chr_model.specs.Goals.{Goal, Plain, Numbered}
use Rattle.chr_model.specs.Goals as goals
use Rattle.chr_search.specs.Positions.{beginning}
use Rattle.chr_search.specs.Reach.{SearchState}
use Rattle.chr_search.specs.Verdicts.{Trial}
use Rattle.chr_calls.specs.declared.answers.TicketState.{TicketState}
use Rattle.chr_calls.specs.declared.answers.TicketState.TheVariants.{Unknown, Waiting, Held, Resting, Ended}

-- A ticket's goal, the seat that holds it, whether it is marked stray, and its search: a position
-- among the trials and perhaps a current candidate.
pub record Ticket : Type 0 where
  pub goal : Goal
  pub holder : Option ℕ
  pub stray : Bool
  pub position : List ℕ
  pub candidate : Option Trial

-- a ticket whose goal has ended
abbrev pub ended : Ticket
ended = record { goal = goals.Ended; holder = None; stray = false; position = []; candidate = None }

-- a ticket of an atom that waits
abbrev pub waiting : Atom ℕ → Ticket
waiting atom =
    record {
      goal = Plain atom;
      holder = None;
      stray = false;
      position = beginning;
      candidate = None;
    }

-- a goal that is activated under a label by a seat: its search is at the beginning
abbrev pub activated_by : ℕ → ℕ → Ticket
activated_by seat l =
    record {
      goal = Numbered l;
      holder = Some seat;
      stray = false;
      position = beginning;
      candidate = None;
    }

-- a ticket that a seat holds again, without its mark
abbrev pub held_by : ℕ → Ticket → Ticket
held_by seat x = record x { holder = Some seat; stray = false; candidate = None }

-- a ticket that no seat holds any more, marked stray
abbrev pub put_down : Ticket → Ticket
put_down x = record x { holder = None; stray = true; candidate = None }

-- a ticket with a mark or without
abbrev pub marked : Bool → Ticket → Ticket
marked mark x = record x { stray = mark }

-- a ticket with this candidate, and one whose search goes on at a position
abbrev pub with_candidate : Option Trial → Ticket → Ticket
with_candidate candidate x = record x { candidate = candidate }

abbrev pub going_on : List ℕ → Ticket → Ticket
going_on place x = record x { position = place; candidate = None }

-- The tickets of a book: ticket t is at place t, and at place 0 stands one that has ended.
abbrev pub ticket_at : List Ticket → ℕ → Ticket
ticket_at tickets t = slice_index_or tickets t ended

-- what a seat is told
abbrev pub state_by : Option ℕ → TicketState
state_by (Some seat) = Held seat
state_by None = Resting

abbrev pub state_with : Goal → Option ℕ → TicketState
state_with (Plain a) holder = Waiting
state_with (Numbered l) holder = state_by holder
state_with goals.Ended holder = Ended

-- the state of a ticket: unknown where it was never given
abbrev pub state_of : List Ticket → ℕ → TicketState
state_of tickets zero = Unknown
state_of tickets (suc t) =
    if nat_lt (suc t) (length tickets)
    then state_with (ticket_at tickets (suc t)).goal (ticket_at tickets (suc t)).holder else Unknown

-- the ticket can be claimed
pub data IsClaimable : TicketState → Type 0 where
  waits : IsClaimable Waiting
  rests : IsClaimable Resting

-- the seat holds the ticket, whose goal has this label
pub record Holds (tickets : List Ticket) (seat t l : ℕ) : Type 0 where
  pub state : state_of tickets t ≡ Held seat
  pub goal : (ticket_at tickets t).goal ≡ Numbered l

abbrev pub IsNotHeld : List Ticket → ℕ → ℕ → Type 0
IsNotHeld tickets seat t = state_of tickets t ≡ Held seat → ⊥

-- no ticket is open
abbrev pub AreQuiet : List Ticket → Type 0
AreQuiet tickets = (t : ℕ) → (ticket_at tickets t).goal ≡ goals.Ended

-- the goal of the ticket is numbered
abbrev pub IsActive : List Ticket → ℕ → Type 0
IsActive tickets t = (l : ℕ) × ((ticket_at tickets t).goal ≡ Numbered l)

-- the atom of a ticket that waits, and the search of an active one
abbrev pub atom_in : Goal → Option (Atom ℕ)
atom_in (Plain a) = Some a
atom_in (Numbered l) = None
atom_in goals.Ended = None

abbrev pub search_with : Goal → List ℕ → Option SearchState
search_with (Plain a) place = None
search_with (Numbered l) place = Some (record { label = l; place = place })
search_with goals.Ended place = None

abbrev pub search_in : Ticket → Option SearchState
search_in x = search_with x.goal x.position

abbrev pub IsStray : List Ticket → ℕ → Type 0
IsStray tickets t = (ticket_at tickets t).stray ≡ true

-- the least marked ticket loses its mark, or there is none
abbrev pub LosesStray : List Ticket → Option ℕ → List Ticket → Type 0
LosesStray old None new = ((t : ℕ) → IsStray old t → ⊥) × (new ≡ old)
LosesStray old (Some t) new =
    IsStray old t × ((u : ℕ) → IsStray old u → t ≤ u) ×
    (new ≡ slice_set old t (marked false (ticket_at old t)))

-- the ticket is open, and no other seat holds it
pub data IsOpenFor : ℕ → TicketState → Type 0 where
  waits_for : (seat : ℕ) → IsOpenFor seat Waiting
  held_for : (seat : ℕ) → IsOpenFor seat (Held seat)
  rests_for : (seat : ℕ) → IsOpenFor seat Resting

-- the least of these, and none
pub record IsLeastFor (tickets : List Ticket) (seat t : ℕ) : Type 0 where
  pub free : IsOpenFor seat (state_of tickets t)
  pub least : (u : ℕ) → IsOpenFor seat (state_of tickets u) → t ≤ u

abbrev pub NoneFor : List Ticket → ℕ → Type 0
NoneFor tickets seat = (t : ℕ) → IsOpenFor seat (state_of tickets t) → ⊥
