-- Several lines of the table of calls, made in one call.
use Rattle.std.specs.Prelude.{⊤, ◌≡◌, ◌≢◌, ℕ, zero, suc, ◌-◌, ◌⊎◌, List, [], ◌∷◌, ◌++◌, Result, Ok, Err}
use Rattle.chr_search.specs.Trials.{Space}
use Rattle.chr_search.specs.Verdicts.{Trial, position}
use Rattle.chr_search.specs.Positions.{just_after}
use Rattle.chr_search.specs.Answers.{IsAnswer, IsAnswerBehind}
use Rattle.chr_search.specs.declared.search.Ask.TheVariants as answers
use Rattle.chr_search.specs.Judged.{Judgement, IsVerdict}
use Rattle.chr_sheet.specs.Kept.{trials_in}
use Rattle.chr_search.specs.declared.judged.Verdict.TheVariants.{Whole}
use Rattle.chr_calls.specs.declared.answers.TurnFault.{TurnFault}
use Rattle.chr_calls.specs.declared.answers.ClaimFault.{ClaimFault}
use Rattle.chr_calls.specs.declared.answers.Firing.{Firing}
use Rattle.chr_calls.specs.declared.answers.FireFault.{FireFault}
use Rattle.chr_calls.specs.declared.answers.Dropping.{Dropping}
use Rattle.chr_calls.specs.declared.answers.DropFault.{DropFault}
use Rattle.chr_calls.specs.declared.answers.Following.{Following as CodeFollowing}
use Rattle.chr_calls.specs.declared.answers.Following.TheVariants as followings
use Rattle.chr_calls.specs.declared.answers.Batch.{Batch as CodeBatch}
use Rattle.chr_calls.specs.declared.answers.Batch.TheVariants as batches
use Rattle.chr_calls.specs.declared.answers.BatchReport.{BatchReport as CodeBatchReport}
use Rattle.chr_calls.specs.declared.answers.Sheet.{Sheet as CodeSheet}
use Rattle.chr_calls.specs.declared.answers.Sheet.TheVariants as sheets
use Rattle.chr_calls.specs.Turns.{Turn, Next, turn_of}
use Rattle.chr_calls.specs.Turns as turn
use Rattle.chr_calls.specs.Books.{BookState, space_of}
use Rattle.chr_calls.specs.Calls.{Turns, HoldsLive, Claims, Reports, FiresOrMisses, Drops}

-- ---- answers, wherever the trials lie in memory

-- its next trials together; no trial is left; or its label has left the store
pub data Batch : Type 0 where
  Trials : List Trial → Batch
  Done : Batch
  Gone : Batch

abbrev pub batch_of : {Z : Type 0} → Result (CodeBatch Z) TurnFault → Result Batch TurnFault
batch_of (Ok (batches.Trials trials)) = Ok (Trials trials.items)
batch_of (Ok batches.Done) = Ok Done
batch_of (Ok batches.Gone) = Ok Gone
batch_of (Err fault) = Err fault

-- the trials of a sheet
abbrev pub sheet_of : {Z : Type 0} → Result (CodeSheet Z) TurnFault → Result Batch TurnFault
sheet_of (Ok (sheets.Trials trials)) = Ok (Trials (trials_in trials.items))
sheet_of (Ok sheets.Done) = Ok Done
sheet_of (Ok sheets.Gone) = Ok Gone
sheet_of (Err fault) = Err fault

-- how many judgements of a batch were reported, and what comes next
pub record BatchReport : Type 0 where
  pub reported : ℕ
  pub next : Result Turn TurnFault

abbrev pub report_of : {Z : Type 0} → CodeBatchReport Z → BatchReport
report_of r = record { reported = r.reported; next = turn_of r.next }

-- ---- trials that are given together

-- Each of these comes next after the trial before it: as many as are asked for, or fewer where none
-- comes after the last.
abbrev pub AreChained : (Trial → Trial → Type 0) → (Trial → Type 0) → ℕ → Trial → List Trial →
    Type 0
AreChained IsNext IsLast zero trial [] = ⊤
AreChained IsNext IsLast zero trial (next ∷ more) = ⊥
AreChained IsNext IsLast (suc most) trial [] = IsLast trial
AreChained IsNext IsLast (suc most) trial (next ∷ more) =
    IsNext trial next × AreChained IsNext IsLast most next more

-- these are a trial and those that come after it so, at most so many
pub record AreTogether (IsNext : Trial → Trial → Type 0) (IsLast : Trial → Type 0) (most : ℕ)
    (first : Trial) (trials : List Trial) : Type 0 where
  pub more : List Trial
  pub are : trials ≡ first ∷ more
  pub chained : AreChained IsNext IsLast most first more

-- the first of these is the next trial, which becomes the candidate, and the others come after it
-- in the space of its goal
pub record GivesTrials (IsNext : Space → Trial → Trial → Type 0) (IsLast : Space → Trial → Type 0)
    (most : ℕ) (b : BookState) (seat t : ℕ) (trials : List Trial) (n : BookState) : Type 0 where
  pub first : Trial
  pub turn : Turns b seat t (Ok (turn.Next first)) n
  pub label : ℕ
  pub holds : HoldsLive b seat t label
  pub together : AreTogether (IsNext (space_of b label)) (IsLast (space_of b label)) most first
      trials

-- The line of trial; where it gives a trial, that one and those after it.
abbrev pub Gives : (Space → Trial → Trial → Type 0) → (Space → Trial → Type 0) → ℕ → BookState → ℕ →
    ℕ → Result Batch TurnFault → BookState → Type 0
Gives IsNext IsLast most b seat t (Err fault) n = Turns b seat t (Err fault) n
Gives IsNext IsLast most b seat t (Ok Gone) n = Turns b seat t (Ok turn.Gone) n
Gives IsNext IsLast most b seat t (Ok Done) n = Turns b seat t (Ok turn.Done) n
Gives IsNext IsLast most b seat t (Ok (Trials trials)) n =
    GivesTrials IsNext IsLast most b seat t trials n

-- ---- batch

-- a trial is the least admissible one past another with the same rule and head and the same labels
-- but the last, and there is none
abbrev pub IsNextBeside : Space → Trial → Trial → Type 0
IsNextBeside s trial next = IsAnswerBehind {Z = Unit {0}} s (position trial) (answers.Trial next)

abbrev pub NoneBeside : Space → Trial → Type 0
NoneBeside s trial = IsAnswerBehind {Z = Unit {0}} s (position trial) answers.Done

-- the next trial and those beside it, sixteen at most
abbrev pub Batches : BookState → ℕ → ℕ → Result Batch TurnFault → BookState → Type 0
Batches b seat t answer n = Gives IsNextBeside NoneBeside 15 b seat t answer n

-- ---- sheet

-- a trial is the least admissible one after another, whatever the verdict on that one, and there is
-- none: a part leads there, and after a misfit none lies between
abbrev pub IsNextAfter : Space → Trial → Trial → Type 0
IsNextAfter s trial next =
    IsAnswer {Z = Unit {0}} s (just_after (position trial)) (answers.Trial next)

abbrev pub NoneAfter : Space → Trial → Type 0
NoneAfter s trial = IsAnswer {Z = Unit {0}} s (just_after (position trial)) answers.Done

-- the next trial and those after it, at most so many, but one at least
abbrev pub Sheets : BookState → ℕ → ℕ → ℕ → Result Batch TurnFault → BookState → Type 0
Sheets b seat t most answer n = Gives IsNextAfter NoneAfter (most - 1) b seat t answer n

-- ---- report_batch

-- What the line of trial answers ends the call at this judgement: the judged trial, which is whole,
-- or no trial.
abbrev pub Ends : Judgement → Result Turn TurnFault → Type 0
Ends j (Ok (Next trial)) = (trial ≡ j.trial) × (j.verdict ≡ Whole)
Ends j (Ok turn.Done) = ⊤
Ends j (Ok turn.Gone) = ⊤
Ends j (Err fault) = ⊤

-- For each judgement in order the line of trial: where it gives the judged trial, which isn't
-- whole, the line of report follows, and where it gives another the judgement is passed over. A
-- call that hasn't ended asks once more. So many were reported, and this is what was answered last.
pub data ReportsAll (seat t : ℕ) : BookState → List Judgement → ℕ → Result Turn TurnFault →
    BookState → Type 0 where
  asks : (b n : BookState) (next : Result Turn TurnFault) → Turns b seat t next n →
      ReportsAll seat t b [] 0 next n
  ends : (b n : BookState) (j : Judgement) (more : List Judgement) (next : Result Turn TurnFault) →
      Turns b seat t next n → Ends j next → ReportsAll seat t b (j ∷ more) 0 next n
  reports : (b asked moved n : BookState) (j : Judgement) (more : List Judgement) (done : Unit {0})
      (reported : ℕ) (next : Result Turn TurnFault)
      → Turns b seat t (Ok (Next j.trial)) asked → Reports asked seat t j (Ok done) moved
      → ReportsAll seat t moved more reported next n →
      ReportsAll seat t b (j ∷ more) (suc reported) next n
  passes : (b asked n : BookState) (trial : Trial) (j : Judgement) (more : List Judgement)
      (reported : ℕ) (next : Result Turn TurnFault)
      → trial ≢ j.trial → Turns b seat t (Ok (Next trial)) asked
      → ReportsAll seat t asked more reported next n →
      ReportsAll seat t b (j ∷ more) reported next n

abbrev pub ReportsBatch : BookState → ℕ → ℕ → List Judgement → BatchReport → BookState → Type 0
ReportsBatch b seat t js answer n = ReportsAll seat t b js answer.reported answer.next n

-- each judgement is the right one for its trial
abbrev pub AreRight : List Judgement → Type 0
AreRight [] = ⊤
AreRight (j ∷ js) = IsVerdict j.trial j.verdict × AreRight js

-- ---- claim_sheet and report_sheet

abbrev pub claimed_of : {Z : Type 0} → Result (Result (CodeSheet Z) TurnFault) ClaimFault →
    Result (Result Batch TurnFault) ClaimFault
claimed_of (Ok answer) = Ok (sheet_of answer)
claimed_of (Err fault) = Err fault

-- the ticket is claimed, and then its first trials are given
abbrev pub ClaimsSheet : BookState → ℕ → ℕ → ℕ → Result (Result Batch TurnFault) ClaimFault →
    BookState → Type 0
ClaimsSheet b seat t most (Err fault) n = Claims b seat t (Err fault) n
ClaimsSheet b seat t most (Ok answer) n =
    (label : ℕ) × (claimed : BookState) × Claims b seat t (Ok label) claimed ×
    Sheets claimed seat t most answer n

-- the call that follows a report, with its answer, wherever trials lie in memory
pub data Following : Type 0 where
  Fire : Result Firing FireFault → Following
  Drop : Result Dropping DropFault → Following
  Sheet : Result Batch TurnFault → Following
  Nothing : TurnFault → Following

abbrev pub following_of : {Z : Type 0} → CodeFollowing Z → Following
following_of (followings.Fire answer) = Fire answer
following_of (followings.Drop answer) = Drop answer
following_of (followings.Sheet answer) = Sheet (sheet_of answer)
following_of (followings.Nothing fault) = Nothing fault

-- the last of these
abbrev pub IsLastOf : List Judgement → Judgement → Type 0
IsLastOf js j = (before : List Judgement) × (js ≡ before ++ j ∷ [])

-- It is the call for what the report says comes next: the last judged trial, which is whole, is
-- fired; another trial is given with those after it; where none is left, or the goal's label has
-- left the store, the goal is dropped; and without an answer no call follows.
abbrev pub Follows : BookState → ℕ → ℕ → ℕ → List Judgement → Result Turn TurnFault → Following →
    BookState → Type 0
Follows b seat t most js next (Fire answer) n =
    (j : Judgement) × IsLastOf js j × (j.verdict ≡ Whole) × (next ≡ Ok (Next j.trial)) ×
    FiresOrMisses b seat t j answer n
Follows b seat t most js next (Sheet answer) n =
    (trial : Trial) × (next ≡ Ok (Next trial)) ×
    ((j : Judgement) → IsLastOf js j → j.verdict ≡ Whole → trial ≢ j.trial) ×
    Sheets b seat t most answer n
Follows b seat t most js next (Drop answer) n =
    ((next ≡ Ok turn.Done) ⊎ (next ≡ Ok turn.Gone)) × Drops b seat t answer n
Follows b seat t most js next (Nothing fault) n = (next ≡ Err fault) × (n ≡ b)

-- judgements are reported, and the call follows for what comes next
pub record ReportsSheet (b : BookState) (seat t most : ℕ) (js : List Judgement) (reported : ℕ)
    (following : Following) (n : BookState) : Type 0 where
  pub next : Result Turn TurnFault
  pub asked : BookState
  pub report : ReportsBatch b seat t js (record { reported = reported; next = next }) asked
  pub follows : Follows asked seat t most js next following n
