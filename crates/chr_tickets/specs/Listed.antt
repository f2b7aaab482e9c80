-- The queue of tickets, and the list of all tickets.
use Rattle.std.specs.Prelude.{◌≡◌, ℕ, ◌+◌, ◌-◌, ◌^◌, ◌<◌, ◌≤◌, false, List, [], ◌∷◌, ◌++◌, length, map, drop, replicate, Option, Some, None, IsSome, slice_index_or}
use Rattle.chr_calls.specs.Tickets.{Ticket, ended, ticket_at}
use Rattle.chr_tickets.specs.declared.ticket.Ticket.{Ticket as CodeTicket}
use Rattle.chr_tickets.specs.Open.{shown_ticket}

-- a slot of the queue, which has a ticket while it is open
abbrev pub Slot : Type 0 → Type 0
Slot Z = Option (CodeTicket Z)

abbrev pub shown_or_ended : {Z : Type 0} → Slot Z → Ticket
shown_or_ended None = ended
shown_or_ended (Some x) = shown_ticket x

-- all tickets: those before the queue's first have ended
unfoldable pub listed : {Z : Type 0} → ℕ → List (Slot Z) → List Ticket
listed first slots = replicate first ended ++ map shown_or_ended slots

-- the first slot of the queue is open, or the queue is empty
abbrev pub StartsOpen : {Z : Type 0} → List (Slot Z) → Type 0
StartsOpen [] = Unit
StartsOpen (slot ∷ slots) = IsSome slot

-- no ticket below a number is marked
abbrev pub AreUnmarked : List Ticket → ℕ → Type 0
AreUnmarked tickets number = (t : ℕ) → t < number → (ticket_at tickets t).stray ≡ false

-- A queue from its first number: tickets are numbered from 1, within 64 bits, and none below
-- `unmarked` is marked.
pub record AreQueued {Z : Type 0} (first : ℕ) (slots : List (Slot Z)) (unmarked : ℕ) : Type 0 where
  pub some : 1 ≤ first
  pub fits : first + length slots < 2 ^ 64
  pub starts : StartsOpen slots
  pub marks : AreUnmarked (listed first slots) unmarked

-- Slots from a first number: the tickets of the first `gone` have ended, whatever these slots hold,
-- and the others are a queue.
pub record AreSlots {Z : Type 0} (first gone : ℕ) (slots : List (Slot Z)) (unmarked : ℕ) :
    Type 0 where
  pub within : gone ≤ length slots
  pub queued : AreQueued (first + gone) (drop gone slots) unmarked

-- the slot of a number has a ticket, among slots from a first number
pub record HasTicket {Z : Type 0} (first : ℕ) (slots : List (Slot Z)) (t : ℕ) : Type 0 where
  pub given : first ≤ t
  pub within : t - first < length slots
  pub some : IsSome (slice_index_or slots (t - first) None)
