-- What a desk over a shared book replies, and its seat before and after. What the book was at that
-- moment is not known but by the reply: others work on it.
use Rattle.std.specs.Prelude.{◌≡◌, ◌+◌, ◌-◌, ◌≤◌, ℕ, List, [], true, false, map, length, drop, Option, Some, None, Result, Ok, Err}
use Rattle.chr_value.specs.Bounds.{greatest_label}
use Rattle.chr_lex.specs.declared.fault.ReadError.{ReadError}
use Rattle.chr_lex.specs.declared.fault.ReadError.TheVariants as errors
use Rattle.chr_log.specs.Events.{event_by_texts}
use Rattle.chr_log.specs.LogText.{entries_text, store_lines}
use Rattle.chr_text.specs.Reading.{program_of}
use Rattle.chr_calls.specs.Books.{BookState, events}
use Rattle.chr_book.specs.Texts.{IsOpenText, PostsText}
use Rattle.chr_book.specs.declared.texts.Posted.{Posted as PostedTickets}
use Rattle.chr_seats.specs.Accounts.{SeatState}
use Rattle.chr_seats.specs.Holds.{MakesNoCall, Reads, WasHold, WasReading}
use Rattle.chr_shared.specs.Readings.{SaysQuiet}
use Rattle.chr_shared.specs.Installs.{WasInstall}
use Rattle.chr_seats.specs.declared.answers.HoldFault.{HoldFault}
use Rattle.chr_seats.specs.declared.answers.HoldFault.TheVariants.{WrongSeat, NoBook}
use Rattle.chr_session.specs.declared.desk.Fault.{Fault as FaultKind}
use Rattle.chr_session.specs.declared.desk.Fault.TheVariants as faults
use Rattle.chr_session.specs.Commands.{Command, Load, Post, Wait, Store, Log, Reply, Loaded, Posted, Quiet, Open, Stored, Logged, Refused}

-- a hold made no call: the seat's counts were not what it has made, or no book was there, and the
-- seat has made nothing
abbrev pub WasRefused : SeatState → FaultKind → Type 0
WasRefused seat faults.WrongSeat = (book : Option BookState) × MakesNoCall book seat WrongSeat
WasRefused seat faults.NoProgram = (book : Option BookState) × MakesNoCall book seat NoBook
WasRefused seat other = ⊥

-- a book was opened by a text, whose rules are so many
pub record HasRulesOf (text : List ℕ) (book : BookState) (count : ℕ) : Type 0 where
  pub opens : IsOpenText text greatest_label book
  pub count_is : count ≡ length opens.read.rules

-- There was a hold before which there was no book, and after which there was one of the rules of a
-- text, which are so many.
pub record WasLoaded (seat : SeatState) (text : List ℕ) (count : ℕ) : Type 0 where
  pub book : BookState
  pub rules : HasRulesOf text book count
  pub hold : WasInstall seat book (Ok (Ok tt))

-- there was a hold in which a book was there, and the seat's counts were what it had made
abbrev pub WasStanding : SeatState → Type 0
WasStanding seat = (book : Option BookState) × Reads (λ b. Unit {0}) book seat

-- a text that isn't read has a fault, or memory ran out
abbrev pub ReadFaults : List ℕ → FaultKind → Type 0
ReadFaults text (faults.Reading fault) = program_of [] text ≡ Err fault
ReadFaults text faults.NoMemory = Unit {0}
ReadFaults text other = ⊥

-- a text is loaded, or isn't read, or a program stands already, or the seat's counts are others
abbrev pub LoadReplies : SeatState → List ℕ → Reply → Type 0
LoadReplies seat text (Loaded count) = WasLoaded seat text count
LoadReplies seat text (Refused faults.AlreadyLoaded) = WasStanding seat
LoadReplies seat text (Refused faults.WrongSeat) = WasRefused seat faults.WrongSeat
LoadReplies seat text (Refused fault) = ReadFaults text fault
LoadReplies seat text other = ⊥

-- there was a hold in which the seat had this answer to its post of a text
abbrev pub WasPost : SeatState → List ℕ → Result (Result PostedTickets ReadError) HoldFault →
    SeatState → Type 0
WasPost old text result new =
    WasHold (λ b answer n. PostsText b old.number text answer n) old result new

-- a text is posted, or it has a fault, or memory ran out, or no call was made
abbrev pub PostReplies : SeatState → List ℕ → Reply → SeatState → Type 0
PostReplies old text (Posted first count) new =
    WasPost old text (Ok (Ok (record { first = first; count = count }))) new
PostReplies old text (Refused (faults.Reading fault)) new =
    WasPost old text (Ok (Err (errors.Fault fault))) new
PostReplies old text (Refused faults.NoMemory) new = WasPost old text (Ok (Err errors.Memory)) new
PostReplies old text (Refused fault) new = WasRefused old fault
PostReplies old text other new = ⊥

-- at some moment no ticket was open, or one was
abbrev pub WaitReplies : SeatState → Reply → Type 0
WaitReplies seat Quiet = WasReading SaysQuiet seat (Ok true)
WaitReplies seat Open = WasReading SaysQuiet seat (Ok false)
WaitReplies seat (Refused fault) = WasRefused seat fault
WaitReplies seat other = ⊥

-- how many constraints the store of a book has, and a line for each
pub record AreStoreLines (b : BookState) (count : ℕ) (lines : List ℕ) : Type 0 where
  pub count_is : count ≡ length b.store
  pub lines_are : lines ≡ store_lines b.names b.store

-- the store of the book at some moment
abbrev pub StoreReplies : SeatState → Reply → Type 0
StoreReplies seat (Stored count lines) =
    (book : Option BookState) × Reads (λ b. AreStoreLines b count lines) book seat
StoreReplies seat (Refused faults.NoMemory) = Unit {0}
StoreReplies seat (Refused fault) = WasRefused seat fault
StoreReplies seat other = ⊥

-- how many entries a book's log has from one on, counted from 1, and a line for each
pub record AreLogLines (b : BookState) (from count : ℕ) (lines : List ℕ) : Type 0 where
  pub count_is : count ≡ length (drop (from - 1) (events b))
  pub lines_are : lines ≡ entries_text (map (event_by_texts b.names) (drop (from - 1) (events b)))

-- the log of the book at some moment
abbrev pub LogReplies : SeatState → ℕ → Reply → Type 0
LogReplies seat from (Logged count lines) =
    (book : Option BookState) × Reads (λ b. AreLogLines b from count lines) book seat
LogReplies seat from (Refused faults.NoMemory) = Unit {0}
LogReplies seat from (Refused fault) = WasRefused seat fault
LogReplies seat from other = ⊥

abbrev pub Answers : SeatState → Command → Reply → SeatState → Type 0
Answers old (Load text) reply new = LoadReplies old text reply
Answers old (Post text) reply new = PostReplies old text reply new
Answers old (Wait most) reply new = WaitReplies old reply
Answers old Store reply new = StoreReplies old reply
Answers old (Log from) reply new = LogReplies old from reply

-- how many tickets a reply says are posted
abbrev pub posted_by : Reply → ℕ
posted_by (Posted first count) = count
posted_by other = 0

-- A command to a desk. The seat's posts rise by what the reply says is posted, and nothing else of
-- the seat changes.
pub record SharedReplies (old : SeatState) (command : Command) (reply : Reply) (new : SeatState)
    : Type 0 where
  pub answers : Answers old command reply new
  pub number : new.number ≡ old.number
  pub posts : new.counts.posts ≡ old.counts.posts + posted_by reply
  pub others : new.counts.others ≡ old.counts.others

-- how often the last wait looked at the book, before and after a command: a wait looks once more
-- than it is told at most
abbrev pub LooksSoOften : Command → ℕ → ℕ → Type 0
LooksSoOften (Wait most) old new = new ≤ most + 1
LooksSoOften other old new = new ≡ old
