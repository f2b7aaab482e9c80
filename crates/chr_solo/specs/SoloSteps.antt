-- What a desk of one seat replies, and the book that it has then.
use Rattle.std.specs.Prelude.{◌≡◌, ◌-◌, ℕ, List, [], map, length, drop, Option, Some, None, Ok, Err}
use Rattle.chr_lex.specs.declared.fault.ReadError.TheVariants as errors
use Rattle.chr_log.specs.Events.{Event, event_by_texts}
use Rattle.chr_log.specs.LogText.{entries_text, store_lines}
use Rattle.chr_model.specs.Logs.{posted_by}
use Rattle.chr_model.specs.Programs.{Instances}
use Rattle.chr_model.specs.Stores.{Final}
use Rattle.chr_text.specs.Reading.{program_of}
use Rattle.chr_calls.specs.Tickets.{AreQuiet}
use Rattle.chr_calls.specs.Books.{BookState, events}
use Rattle.chr_calls.specs.Headline.{Headline}
use Rattle.chr_book.specs.Texts.{IsOpenText, PostsText}
use Rattle.chr_solo.specs.Solo.{IsSolo, IsCutShort}
use Rattle.chr_session.specs.declared.desk.Fault.TheVariants as faults
use Rattle.chr_session.specs.Commands.{Command, Load, Post, Wait, Store, Log, Reply, Loaded, Posted, Quiet, Open, Stored, Logged, Refused}

-- the seat that makes all calls
abbrev pub seat : ℕ
seat = 0

-- there is a book of the rules of a text, which are so many
pub record IsLoaded (limit : ℕ) (text : List ℕ) (count : ℕ) (new : Option BookState) : Type 0 where
  pub book : BookState
  pub opens : IsOpenText text limit book
  pub count_is : count ≡ length opens.read.rules
  pub after : new ≡ Some book

-- a text is loaded, or it has a fault, or memory ran out: then there is no program as before
abbrev pub LoadsText : ℕ → List ℕ → Reply → Option BookState → Type 0
LoadsText limit text (Loaded count) new = IsLoaded limit text count new
LoadsText limit text (Refused (faults.Reading fault)) new =
    (program_of [] text ≡ Err fault) × (new ≡ None)
LoadsText limit text (Refused faults.NoMemory) new = new ≡ None
LoadsText limit text other new = ⊥

-- a text is posted, or it has a fault, or memory ran out: then the book is as before
abbrev pub PostReplies : BookState → List ℕ → Reply → BookState → Type 0
PostReplies b text (Posted first count) n =
    PostsText b seat text (Ok (record { first = first; count = count })) n
PostReplies b text (Refused (faults.Reading fault)) n =
    PostsText b seat text (Err (errors.Fault fault)) n
PostReplies b text (Refused faults.NoMemory) n = PostsText b seat text (Err errors.Memory) n
PostReplies b text other n = ⊥

-- a whole solo run of at most so many calls, to a book that has the headline
pub record Waited (most : ℕ) (b n : BookState) : Type 0 where
  pub calls : ℕ
  pub solo : IsSolo seat most b calls n
  pub headline : Headline n (posted_by (events n))

-- A solo run ends quiet, exactly where no ticket is open, and then no rule applies to the store; or
-- it ends open. Where memory ran out the book is that of the calls made, and has the headline.
abbrev pub WaitReplies : BookState → ℕ → Reply → BookState → Type 0
WaitReplies b most Quiet n =
    Waited most b n × AreQuiet n.tickets × Final (Instances n.rules) n.store
WaitReplies b most Open n = Waited most b n × (AreQuiet n.tickets → ⊥)
WaitReplies b most (Refused faults.NoMemory) n =
    IsCutShort seat most b n × Headline n (posted_by (events n))
WaitReplies b most other n = ⊥

-- how many constraints the store has, and a line for each; the book is as before
abbrev pub StoreReplies : BookState → Reply → BookState → Type 0
StoreReplies b (Stored count lines) n =
    (count ≡ length b.store) × (lines ≡ store_lines b.names b.store) × (n ≡ b)
StoreReplies b (Refused faults.NoMemory) n = n ≡ b
StoreReplies b other n = ⊥

-- the events of a book from one on, counted from 1
abbrev pub events_from : BookState → ℕ → List (Event ℕ)
events_from b from = drop (from - 1) (events b)

-- how many entries there are from one on, and a line for each; the book is as before
abbrev pub LogReplies : BookState → ℕ → Reply → BookState → Type 0
LogReplies b from (Logged count lines) n =
    (count ≡ length (events_from b from)) ×
    (lines ≡ entries_text (map (event_by_texts b.names) (events_from b from))) × (n ≡ b)
LogReplies b from (Refused faults.NoMemory) n = n ≡ b
LogReplies b from other n = ⊥

-- a command to a desk that has a program: another is refused
abbrev pub BookReplies : BookState → Command → Reply → BookState → Type 0
BookReplies b (Load text) reply n = (reply ≡ Refused faults.AlreadyLoaded) × (n ≡ b)
BookReplies b (Post text) reply n = PostReplies b text reply n
BookReplies b (Wait most) reply n = WaitReplies b most reply n
BookReplies b Store reply n = StoreReplies b reply n
BookReplies b (Log from) reply n = LogReplies b from reply n

-- a command to a desk without a program: it can only be loaded
abbrev pub EmptyReplies : ℕ → Command → Reply → Option BookState → Type 0
EmptyReplies limit (Load text) reply new = LoadsText limit text reply new
EmptyReplies limit command reply new = (reply ≡ Refused faults.NoProgram) × (new ≡ None)

-- a command to a desk whose books give no label above the limit
abbrev pub SoloReplies : ℕ → Option BookState → Command → Reply → Option BookState → Type 0
SoloReplies limit None command reply new = EmptyReplies limit command reply new
SoloReplies limit (Some b) command reply new =
    (n : BookState) × BookReplies b command reply n × (new ≡ Some n)
