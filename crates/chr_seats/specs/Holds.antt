-- Holds of the lock by a seat. A call, and what is read, is given as a relation: from the book
-- before it and its answer to the book after it, and from a book to what is read of it.
use Rattle.std.specs.Prelude.{◌≡◌, ℕ, ◌++◌, List, [], Bool, true, false, Option, Some, None, Result, Ok, Err}
use Rattle.std.specs.List.{AllByRecursion}
use Rattle.chr_log.specs.Events.{Entry, Event, Post, Activate, Fire, Drop}
use Rattle.chr_model.specs.Logs.{posted_by}
use Rattle.chr_calls.specs.Calls.{TakesStray, Marks}
use Rattle.chr_calls.specs.Books.{BookState, events}
use Rattle.chr_calls.specs.Headline.{Headline}
use Rattle.chr_calls.specs.declared.answers.MarkFault.{MarkFault}
use Rattle.chr_calls.specs.declared.answers.MarkFault.TheVariants.{NotWaiting}
use Rattle.chr_calls.specs.declared.answers.TicketState.TheVariants.{Unknown}
use Rattle.chr_seats.specs.declared.answers.HoldFault.{HoldFault}
use Rattle.chr_seats.specs.declared.answers.HoldFault.TheVariants.{WrongSeat, NoBook}
use Rattle.chr_seats.specs.Accounts.{SeatState, log_of, counts_in}
use Rattle.chr_seats.specs.Versions.{AreAlike}

-- the book has the headline, for what its log says was posted
abbrev pub HasHeadline : BookState → Type 0
HasHeadline b = Headline b (posted_by (events b))

-- the seat's counts are what it has made
abbrev pub HasRightCounts : Option BookState → SeatState → Type 0
HasRightCounts book seat = seat.counts ≡ counts_in (log_of book) seat.number

-- no call is made, since the seat has other counts than what it has made, or there is no book, and
-- it has made nothing
abbrev pub MakesNoCall : Option BookState → SeatState → HoldFault → Type 0
MakesNoCall book seat WrongSeat = HasRightCounts book seat → ⊥
MakesNoCall book seat NoBook = (book ≡ None) × (seat.counts ≡ record { posts = 0; others = 0 })

-- The book that is there answers a call and is another then. Before and after, it has the headline,
-- and the seat's counts are what it has made.
pub record Makes (Call : BookState → BookState → Type 0) (old : Option BookState) (seat : SeatState)
    (new : Option BookState) (after : SeatState) : Type 0 where
  pub book : BookState
  pub is : old ≡ Some book
  pub next : BookState
  pub is_next : new ≡ Some next
  pub call : Call book next
  pub headline_before : HasHeadline book
  pub headline_now : HasHeadline next
  pub number : after.number ≡ seat.number
  pub before : seat.counts ≡ counts_in book.log seat.number
  pub now : after.counts ≡ counts_in next.log seat.number

-- a hold: a call is made, or none, and then nothing has changed
abbrev pub IsHold : {X : Type 0} → (BookState → X → BookState → Type 0) → Option BookState →
    SeatState → Result X HoldFault → Option BookState → SeatState → Type 0
IsHold Call old seat (Ok answer) new after = Makes (λ b n. Call b answer n) old seat new after
IsHold Call old seat (Err fault) new after =
    MakesNoCall old seat fault × (new ≡ old) × (after ≡ seat)

-- there was such a hold, whatever was under the lock
abbrev pub WasHold : {X : Type 0} → (BookState → X → BookState → Type 0) → SeatState →
    Result X HoldFault → SeatState → Type 0
WasHold Call seat result after =
    (old new : Option BookState) × IsHold Call old seat result new after

-- what is said is read of the book that is there, which has the headline, and in which the seat's
-- counts are what it has made
pub record Reads (Says : BookState → Type 0) (old : Option BookState)
    (seat : SeatState) : Type 0 where
  pub book : BookState
  pub is : old ≡ Some book
  pub headline : HasHeadline book
  pub counts : seat.counts ≡ counts_in book.log seat.number
  pub says : Says book

-- a hold that changes nothing
abbrev pub IsReading : {X : Type 0} → (BookState → X → Type 0) → Option BookState → SeatState →
    Result X HoldFault → Type 0
IsReading Says book seat (Ok x) = Reads (λ b. Says b x) book seat
IsReading Says book seat (Err fault) = MakesNoCall book seat fault

-- there was such a hold, whatever was under the lock
abbrev pub WasReading : {X : Type 0} → (BookState → X → Type 0) → SeatState → Result X HoldFault →
    Type 0
WasReading Says seat result = (book : Option BookState) × IsReading Says book seat result

-- whether an event is a post, or none
abbrev pub IsOfSort : Bool → Event ℕ → Type 0
IsOfSort true (Post t a) = Unit {0}
IsOfSort true (Activate t l) = ⊥
IsOfSort true (Fire t r kept removed) = ⊥
IsOfSort true (Drop t) = ⊥
IsOfSort false (Post t a) = ⊥
IsOfSort false (Activate t l) = Unit {0}
IsOfSort false (Fire t r kept removed) = Unit {0}
IsOfSort false (Drop t) = Unit {0}

-- a post of the seat, or another entry of it
abbrev pub IsEntryOf : Bool → ℕ → Entry ℕ → Type 0
IsEntryOf posts seat e = (e.seat ≡ seat) × IsOfSort posts e.event

-- The book's log goes on by posts of the seat alone, or by other entries of it alone. Where it is
-- as long as before, what searches look through is the same.
pub record GoesOn (posts : Bool) (seat : ℕ) (b n : BookState) : Type 0 where
  pub more : List (Entry ℕ)
  pub log : n.log ≡ b.log ++ more
  pub are : AllByRecursion (IsEntryOf posts seat) more
  pub still : more ≡ [] → AreAlike b n

-- marking a ticket stray, and taking one, where there is a book, which has the headline before and
-- after; without one every ticket is unknown and none is stray
abbrev pub MarksIn : Option BookState → ℕ → Result (Unit {0}) MarkFault → Option BookState → Type 0
MarksIn None t answer new = (answer ≡ Err (NotWaiting Unknown)) × (new ≡ None)
MarksIn (Some b) t answer new =
    (n : BookState) × Marks b t answer n × (new ≡ Some n) × HasHeadline b × HasHeadline n

abbrev pub TakesStrayIn : Option BookState → Option ℕ → Option BookState → Type 0
TakesStrayIn None answer new = (answer ≡ None) × (new ≡ None)
TakesStrayIn (Some b) answer new =
    (n : BookState) × TakesStray b answer n × (new ≡ Some n) × HasHeadline b × HasHeadline n
