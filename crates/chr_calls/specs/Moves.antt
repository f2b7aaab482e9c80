-- How calls move the searches of goals.
use Rattle.std.specs.Prelude.{◌≡◌, ℕ, true, false}
use Rattle.chr_search.specs.Positions.{at_or_after}
use Rattle.chr_calls.specs.Tickets.{ticket_at, IsActive}
use Rattle.chr_calls.specs.Books.{BookState}

-- no search has moved back: a goal that is numbered before and after is searched from the same
-- position or from one after it
abbrev pub NoneMovesBack : BookState → BookState → Type 0
NoneMovesBack b n =
    (t : ℕ) → IsActive b.tickets t → IsActive n.tickets t →
    at_or_after (ticket_at b.tickets t).position (ticket_at n.tickets t).position ≡ true

-- the search of a ticket has moved on: its position is after the one before
abbrev pub MovesOn : BookState → ℕ → BookState → Type 0
MovesOn b t n =
    at_or_after (ticket_at n.tickets t).position (ticket_at b.tickets t).position ≡ false
