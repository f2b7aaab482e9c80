-- The search of a live goal, and what comes next there.
use Rattle.std.specs.Prelude.{◌≡◌, ℕ, Option, Some, None, Result, Ok, Err}
use Rattle.std.specs.Borrow.{Bor}
use Rattle.chr_search.specs.Reach.{SearchState}
use Rattle.chr_calls.specs.declared.answers.TurnFault.{TurnFault}
use Rattle.chr_calls.specs.declared.answers.TurnFault.TheVariants as turn_fault
use Rattle.chr_calls.specs.Turns.{Turn, Next, Done, Gone}
use Rattle.chr_calls.specs.Tickets.{ticket_at, Holds, IsNotHeld}
use Rattle.chr_calls.specs.Books.{BookState, IsLive}
use Rattle.chr_calls.specs.Calls.{HoldsLive, IsDone}
use Rattle.chr_book.specs.Given.{ComesNext}

-- the seat holds the ticket, whose goal's label has left the store
pub record HoldsGone (b : BookState) (seat t : ℕ) : Type 0 where
  pub label : ℕ
  pub holds : Holds b.tickets seat t label
  pub gone : IsLive b label → ⊥

-- the search of a live goal that the seat holds
pub record IsLiveSearch (b : BookState) (seat t : ℕ) (search : SearchState) : Type 0 where
  pub holds : HoldsLive b seat t search.label
  pub place : search.place ≡ (ticket_at b.tickets t).position

-- that search, where the seat holds the ticket; none, where the goal's label has left the store
abbrev pub FindsLive : BookState → ℕ → ℕ → Result (Option (Bor SearchState)) TurnFault → Type 0
FindsLive b seat t (Err turn_fault.NotHeld) = IsNotHeld b.tickets seat t
FindsLive b seat t (Err turn_fault.NoMemory) = ⊥
FindsLive b seat t (Ok None) = HoldsGone b seat t
FindsLive b seat t (Ok (Some search)) = IsLiveSearch b seat t search.now

-- what the line of trial answers, whatever comes of the candidate
abbrev pub IsTurn : BookState → ℕ → ℕ → Result Turn TurnFault → Type 0
IsTurn b seat t (Err turn_fault.NotHeld) = IsNotHeld b.tickets seat t
IsTurn b seat t (Err turn_fault.NoMemory) = (l : ℕ) × HoldsLive b seat t l
IsTurn b seat t (Ok Gone) = HoldsGone b seat t
IsTurn b seat t (Ok (Next trial)) = ComesNext b seat t trial
IsTurn b seat t (Ok Done) = (l : ℕ) × HoldsLive b seat t l × IsDone b t l
