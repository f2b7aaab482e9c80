-- An open ticket, as the tickets of a book show it.
use Rattle.std.specs.Prelude.{◌≡◌, ℕ, Bool, true, false, ◌==◌, None}
use Rattle.chr_value.specs.Atoms.{Atom}
use Rattle.chr_model.specs.Goals.{Goal, Plain, Numbered}
use Rattle.chr_search.specs.Positions.{beginning}
use Rattle.chr_calls.specs.declared.answers.TicketState.{TicketState}
use Rattle.chr_calls.specs.declared.answers.TicketState.TheVariants.{Unknown, Waiting, Held, Resting, Ended}
use Rattle.chr_calls.specs.Tickets.{Ticket, state_with}
use Rattle.chr_tickets.specs.declared.ticket.Goal.{Goal as CodeGoal}
use Rattle.chr_tickets.specs.declared.ticket.Goal.TheVariants as goals
use Rattle.chr_tickets.specs.declared.ticket.Ticket.{Ticket as CodeTicket}

-- a goal with a mark or without
abbrev pub shown : {Z : Type 0} → CodeGoal Z → Bool → Ticket
shown (goals.Waiting atom) mark =
    record {
      goal = Plain atom;
      holder = None;
      stray = mark;
      position = beginning;
      candidate = None;
    }
shown (goals.Active search candidate holder) mark =
    record {
      goal = Numbered search.label;
      holder = holder;
      stray = mark;
      position = search.place;
      candidate = candidate;
    }

abbrev pub shown_ticket : {Z : Type 0} → CodeTicket Z → Ticket
shown_ticket x = shown x.goal x.stray

-- its state
abbrev pub state_in : Ticket → TicketState
state_in x = state_with x.goal x.holder

-- a ticket with this goal, and one that waits with this atom
abbrev pub with_goal : Goal → Ticket → Ticket
with_goal goal x = record x { goal = goal }

abbrev pub with_atom : Atom ℕ → Ticket → Ticket
with_atom atom x = with_goal (Plain atom) x

-- the goal is numbered
abbrev pub IsActiveGoal : Goal → Type 0
IsActiveGoal goal = (l : ℕ) × (goal ≡ Numbered l)

-- whether no other seat holds a ticket of this state, which is open
abbrev pub is_open_for : ℕ → TicketState → Bool
is_open_for seat Unknown = false
is_open_for seat Waiting = true
is_open_for seat (Held holder) = holder == seat
is_open_for seat Resting = true
is_open_for seat Ended = false
