-- Lists of calls by any seats: what each is answered, and the book afterwards.
use Rattle.std.specs.Prelude.{◌≡◌, ◌⊎◌, ℕ, List, [], ◌∷◌, ◌++◌, Option, Some, Result, Ok, Err}
use Rattle.chr_value.specs.Atoms.{Atom}
use Rattle.chr_lex.specs.declared.fault.ReadError.{ReadError}
use Rattle.chr_search.specs.Verdicts.{Trial}
use Rattle.chr_search.specs.Judged.{Judgement}
use Rattle.chr_calls.specs.declared.answers.TicketState.TheVariants as states
use Rattle.chr_calls.specs.declared.answers.PostFault.{PostFault}
use Rattle.chr_calls.specs.declared.answers.ClaimFault.{ClaimFault}
use Rattle.chr_calls.specs.declared.answers.TurnFault.{TurnFault}
use Rattle.chr_calls.specs.declared.answers.ReportFault.{ReportFault}
use Rattle.chr_calls.specs.declared.answers.ReportFault.TheVariants as report
use Rattle.chr_calls.specs.declared.answers.Firing.{Firing}
use Rattle.chr_calls.specs.declared.answers.FireFault.{FireFault}
use Rattle.chr_calls.specs.declared.answers.FireFault.TheVariants as fire
use Rattle.chr_calls.specs.declared.answers.Dropping.{Dropping}
use Rattle.chr_calls.specs.declared.answers.DropFault.{DropFault}
use Rattle.chr_calls.specs.declared.answers.PutDownFault.{PutDownFault}
use Rattle.chr_calls.specs.declared.answers.MarkFault.{MarkFault}
use Rattle.chr_calls.specs.Turns.{Turn}
use Rattle.chr_calls.specs.Batches.{Batch, BatchReport, Batches, ReportsBatch}
use Rattle.chr_calls.specs.Tickets.{state_of, IsNotHeld}
use Rattle.chr_calls.specs.Books.{BookState}
use Rattle.chr_calls.specs.Calls.{Posts, Claims, Turns, Reports, FiresOrMisses, Drops, PutsDown, Marks, TakesStray}
use Rattle.chr_book.specs.declared.texts.Posted.{Posted as PostedText}
use Rattle.chr_book.specs.Texts.{PostsText}
use Rattle.chr_run_calls.specs.declared.run.Act.{Act}
use Rattle.chr_run_calls.specs.declared.run.Act.TheVariants as act
use Rattle.chr_run_calls.specs.Lists.{Word, Own, Words, OwnBatch, SeatCall, Answer, Said, said}
use Rattle.chr_run_calls.specs.Lists as list
use Rattle.chr_run_calls.specs.Told.{last_trial, last_batch, StandsFor, StandsForNone, StandFor}

-- ---- calls by a word

-- a judgement is reported, or its trial fired
abbrev pub Acts : Act → BookState → ℕ → ℕ → Judgement → Answer → BookState → Type 0
Acts act.Report b seat t j answer n =
    (told : Result (Unit {0}) ReportFault) × (answer ≡ list.Reported told) ×
    Reports b seat t j told n
Acts act.Fire b seat t j answer n =
    (told : Result Firing FireFault) × (answer ≡ list.Fired told) × FiresOrMisses b seat t j told n

-- E13 and E14 of both
abbrev pub not_held : Act → Answer
not_held act.Report = list.Reported (Err report.NotHeld)
not_held act.Fire = list.Fired (Err fire.NotHeld)

abbrev pub stale : Act → Answer
stale act.Report = list.Reported (Err report.Stale)
stale act.Fire = list.Fired (Err fire.Stale)

-- where the seat was told no trial: E13 unless it holds the ticket, and else E14
abbrev pub IsNoneTold : Act → BookState → ℕ → ℕ → Answer → Type 0
IsNoneTold does b seat t answer =
    (IsNotHeld b.tickets seat t × (answer ≡ not_held does)) ⊎
    ((state_of b.tickets t ≡ states.Held seat) × (answer ≡ stale does))

-- The line of the call for the judgement that its word stands for. Where memory ran out as the
-- seat's own judgement was made, that is the answer.
pub data ActsByWord (does : Act) (b : BookState) (so_far : List Said) (seat t : ℕ) (word : Word)
    (answer : Answer) (n : BookState) : Type 0 where
  judged : (j : Judgement) → StandsFor so_far seat t word j → Acts does b seat t j answer n →
      ActsByWord does b so_far seat t word answer n
  none_told : StandsForNone so_far seat t word → IsNoneTold does b seat t answer → n ≡ b →
      ActsByWord does b so_far seat t word answer n
  no_memory : (trial : Trial) → word ≡ Own → last_trial so_far seat t ≡ Some trial →
      answer ≡ list.NoMemory → n ≡ b → ActsByWord does b so_far seat t word answer n

-- the reports of a batch by words
pub data ReportsByWords (b : BookState) (so_far : List Said) (seat t : ℕ) (words : Words)
    (answer : Answer) (n : BookState) : Type 0 where
  all_judged : (js : List Judgement) (told : BatchReport) → StandFor so_far seat t words js →
      answer ≡ list.BatchReported told → ReportsBatch b seat t js told n →
      ReportsByWords b so_far seat t words answer n
  none_judged : (trials : List Trial) → words ≡ OwnBatch → last_batch so_far seat t ≡ Some trials →
      answer ≡ list.NoMemory → n ≡ b → ReportsByWords b so_far seat t words answer n

-- ---- the answer to a call

-- The answer to a call by a seat, where these were the calls and answers so far, the latest first,
-- and the book afterwards: its line of the table of calls.
abbrev pub Answers : BookState → List Said → ℕ → list.Call → Answer → BookState → Type 0
Answers b so_far seat (list.Post atoms) answer n =
    (told : Result ℕ PostFault) × (answer ≡ list.Posted told) × Posts b seat atoms told n
Answers b so_far seat (list.PostText bytes) answer n =
    (told : Result PostedText ReadError) × (answer ≡ list.TextPosted told) ×
    PostsText b seat bytes told n
Answers b so_far seat (list.Claim t) answer n =
    (told : Result ℕ ClaimFault) × (answer ≡ list.Claimed told) × Claims b seat t told n
Answers b so_far seat (list.Ask t) answer n =
    (told : Result Turn TurnFault) × (answer ≡ list.Asked told) × Turns b seat t told n
Answers b so_far seat (list.Report t word) answer n =
    ActsByWord act.Report b so_far seat t word answer n
Answers b so_far seat (list.Fire t word) answer n =
    ActsByWord act.Fire b so_far seat t word answer n
Answers b so_far seat (list.DropGoal t) answer n =
    (told : Result Dropping DropFault) × (answer ≡ list.Dropped told) × Drops b seat t told n
Answers b so_far seat (list.PutDown t) answer n =
    (told : Result (Unit {0}) PutDownFault) × (answer ≡ list.IsPutDown told) ×
    PutsDown b seat t told n
Answers b so_far seat (list.MarkStray t) answer n =
    (told : Result (Unit {0}) MarkFault) × (answer ≡ list.Marked told) × Marks b t told n
Answers b so_far seat list.TakeStray answer n =
    (told : Option ℕ) × (answer ≡ list.Strayed told) × TakesStray b told n
Answers b so_far seat (list.AskBatch t) answer n =
    (told : Result Batch TurnFault) × (answer ≡ list.BatchAsked told) × Batches b seat t told n
Answers b so_far seat (list.ReportBatch t words) answer n =
    ReportsByWords b so_far seat t words answer n

-- the atoms that a call posts: those of a post that is answered with a ticket
abbrev pub atoms_of_post : List (Atom ℕ) → Result ℕ PostFault → List (Atom ℕ)
atoms_of_post atoms (Ok first) = atoms
atoms_of_post atoms (Err fault) = []

abbrev pub atoms_of_text : (b n : BookState) (seat : ℕ) (bytes : List ℕ)
    (told : Result PostedText ReadError) → PostsText b seat bytes told n → List (Atom ℕ)
atoms_of_text b n seat bytes (Ok posted) made = made.atoms
atoms_of_text b n seat bytes (Err fault) made = []

abbrev pub atoms_of : (b n : BookState) (so_far : List Said) (seat : ℕ) (call : list.Call)
    (answer : Answer) → Answers b so_far seat call answer n → List (Atom ℕ)
atoms_of b n so_far seat (list.Post atoms) answer made = atoms_of_post atoms made.0
atoms_of b n so_far seat (list.PostText bytes) answer made =
    atoms_of_text b n seat bytes made.0 made.2
atoms_of b n so_far seat call answer made = []

-- ---- lists of calls

-- One call after another: these are the answers to these calls, in order, from one book to another.
abbrev pub AnswersFrom : List Said → BookState → List SeatCall → List Answer → BookState → Type 0
AnswersFrom so_far b [] [] n = n ≡ b
AnswersFrom so_far b [] (answer ∷ answers) n = ⊥
AnswersFrom so_far b (call ∷ calls) [] n = ⊥
AnswersFrom so_far b (call ∷ calls) (answer ∷ answers) n =
    (middle : BookState) × Answers b so_far call.seat call.call answer middle ×
    AnswersFrom (said call answer ∷ so_far) middle calls answers n

-- the answers to a list of calls, before which none was made
abbrev pub AnswersAre : BookState → List SeatCall → List Answer → BookState → Type 0
AnswersAre b calls answers n = AnswersFrom [] b calls answers n

-- all atoms that they post, in order
abbrev pub posted_in : (so_far : List Said) (b n : BookState) (calls : List SeatCall)
    (answers : List Answer) → AnswersFrom so_far b calls answers n → List (Atom ℕ)
posted_in so_far b n [] [] made = []
posted_in so_far b n [] (answer ∷ answers) made = absurd made
posted_in so_far b n (call ∷ calls) [] made = absurd made
posted_in so_far b n (call ∷ calls) (answer ∷ answers) made =
    atoms_of b made.0 so_far call.seat call.call answer made.1 ++
    posted_in (said call answer ∷ so_far) made.0 n calls answers made.2

abbrev pub atoms_posted : (b n : BookState) (calls : List SeatCall) (answers : List Answer) →
    AnswersAre b calls answers n → List (Atom ℕ)
atoms_posted b n calls answers made = posted_in [] b n calls answers made
