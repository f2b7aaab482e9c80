-- Runs of a book: calls by any seats, one after another.
use Rattle.std.specs.Prelude.{◌≡◌, ℕ, List, [], ◌∷◌, ◌++◌, length, take, Option, Result, Ok, Err}
use Rattle.chr_value.specs.Atoms.{Atom}
use Rattle.chr_value.specs.Naming.{Table}
use Rattle.chr_search.specs.Judged.{Judgement, IsVerdict}
use Rattle.chr_calls.specs.declared.answers.PostFault.{PostFault}
use Rattle.chr_calls.specs.declared.answers.ClaimFault.{ClaimFault}
use Rattle.chr_calls.specs.declared.answers.TurnFault.{TurnFault}
use Rattle.chr_calls.specs.declared.answers.ReportFault.{ReportFault}
use Rattle.chr_calls.specs.declared.answers.Firing.{Firing}
use Rattle.chr_calls.specs.declared.answers.FireFault.{FireFault}
use Rattle.chr_calls.specs.declared.answers.Dropping.{Dropping}
use Rattle.chr_calls.specs.declared.answers.DropFault.{DropFault}
use Rattle.chr_calls.specs.declared.answers.PutDownFault.{PutDownFault}
use Rattle.chr_calls.specs.declared.answers.MarkFault.{MarkFault}
use Rattle.chr_calls.specs.Turns.{Turn}
use Rattle.chr_calls.specs.Books.{BookState, with_names}
use Rattle.chr_calls.specs.Calls.{Posts, Claims, Turns, Reports, FiresOrMisses, Drops, PutsDown, Marks, TakesStray}
use Rattle.chr_calls.specs.Batches.{BatchReport, Batches, ReportsBatch, AreRight}
use Rattle.chr_calls.specs.Batches as batches

-- A call by a seat, with its answer: it leads from one book to another. A judgement is the right
-- one for its trial. A post may enter the names of its atoms into the table first, after those that
-- are there.
pub data Call (b : BookState) (seat : ℕ) (n : BookState) : Type 0 where
  Post : (atoms : List (Atom ℕ)) (answer : Result ℕ PostFault) → Posts b seat atoms answer n →
      Call b seat n
  PostText : (table : Table) (atoms : List (Atom ℕ)) (first : ℕ) →
      take (length b.names) table ≡ b.names → Posts (with_names b table) seat atoms (Ok first) n →
      Call b seat n
  Claim : (t : ℕ) (answer : Result ℕ ClaimFault) → Claims b seat t answer n → Call b seat n
  Trial : (t : ℕ) (answer : Result Turn TurnFault) → Turns b seat t answer n → Call b seat n
  Report : (t : ℕ) (j : Judgement) (answer : Result (Unit {0}) ReportFault) →
      IsVerdict j.trial j.verdict → Reports b seat t j answer n → Call b seat n
  Fire : (t : ℕ) (j : Judgement) (answer : Result Firing FireFault) → IsVerdict j.trial j.verdict →
      FiresOrMisses b seat t j answer n → Call b seat n
  DropGoal : (t : ℕ) (answer : Result Dropping DropFault) → Drops b seat t answer n → Call b seat n
  PutDown : (t : ℕ) (answer : Result (Unit {0}) PutDownFault) → PutsDown b seat t answer n →
      Call b seat n
  MarkStray : (t : ℕ) (answer : Result (Unit {0}) MarkFault) → Marks b t answer n → Call b seat n
  TakeStray : (answer : Option ℕ) → TakesStray b answer n → Call b seat n
  Batch : (t : ℕ) (answer : Result batches.Batch TurnFault) → Batches b seat t answer n →
      Call b seat n
  ReportBatch : (t : ℕ) (js : List Judgement) (answer : BatchReport) → AreRight js →
      ReportsBatch b seat t js answer n → Call b seat n

-- the atoms that a call posts: those of a post that is answered with a ticket
abbrev pub posts_of : {b n : BookState} {seat : ℕ} → Call b seat n → List (Atom ℕ)
posts_of (Post atoms (Ok first) made) = atoms
posts_of (Post atoms (Err fault) made) = []
posts_of (PostText table atoms first keeps made) = atoms
posts_of (Claim t answer made) = []
posts_of (Trial t answer made) = []
posts_of (Report t j answer right made) = []
posts_of (Fire t j answer right made) = []
posts_of (DropGoal t answer made) = []
posts_of (PutDown t answer made) = []
posts_of (MarkStray t answer made) = []
posts_of (TakeStray answer made) = []
posts_of (Batch t answer made) = []
posts_of (ReportBatch t js answer right made) = []

-- A run: calls by any seats, one after another, of which each posts these atoms.
abbrev pub Run : BookState → List (List (Atom ℕ)) → BookState → Type 0
Run b [] n = n ≡ b
Run b (posts ∷ more) n =
    (middle : BookState) × (seat : ℕ) × (call : Call b seat middle) × (posts_of call ≡ posts) ×
    Run middle more n

-- all that a run posts, in order
abbrev pub all_posts : List (List (Atom ℕ)) → List (Atom ℕ)
all_posts [] = []
all_posts (posts ∷ more) = posts ++ all_posts more
