-- Whether a trial is the next one, and what is reported and fired then.
use Rattle.std.specs.Prelude.{⊤, ◌≡◌, ◌≢◌, ◌⊎◌, ℕ, Bool, true, false, List, map, Option, Some, None, MatchOption, Result, Ok, Err}
use Rattle.chr_search.specs.Reach.{SearchState}
use Rattle.chr_search.specs.Trials.{Space}
use Rattle.chr_search.specs.Verdicts.{Trial, IsFormed}
use Rattle.chr_search.specs.Judged.{Judgement}
use Rattle.chr_search.specs.declared.judged.Verdict.TheVariants.{Whole}
use Rattle.chr_calls.specs.declared.answers.TurnFault.{TurnFault}
use Rattle.chr_calls.specs.declared.answers.Fired.{Fired}
use Rattle.chr_calls.specs.declared.answers.Firing.TheVariants as firing
use Rattle.chr_calls.specs.Turns.{Turn, Next}
use Rattle.chr_calls.specs.Tickets.{IsNotHeld}
use Rattle.chr_calls.specs.Books.{BookState, space_of}
use Rattle.chr_calls.specs.Calls.{HoldsLive, HoldsCandidate, HoldsOther, IsNextTrial, Turns, FiresOrMisses, with_candidate_of}
use Rattle.chr_sheet.specs.Rows.{JudgedSheet, judgements_of}
use Rattle.chr_sheet.specs.Sheets.{Reports, IsFireable, AreNextInOrder}
use Rattle.chr_sheet.specs.Sheets as sheets
use Rattle.chr_calls.specs.Batches.{Following, Follows, IsLastOf, ReportsAll}

-- a trial is the next one of a goal that the seat holds
pub record ComesNext (b : BookState) (seat t : ℕ) (trial : Trial) : Type 0 where
  pub label : ℕ
  pub holds : HoldsLive b seat t label
  pub is : IsNextTrial b t label trial

-- a trial past which its judgement moves the search: the ticket's candidate, or its next trial
abbrev pub IsToJudge : BookState → ℕ → ℕ → Trial → Type 0
IsToJudge b seat t trial = HoldsCandidate b seat t trial ⊎ ComesNext b seat t trial

-- whether a trial is the candidate of a ticket; none, where the seat doesn't hold the ticket
abbrev pub TellsCandidate : BookState → ℕ → ℕ → Trial → Option Bool → Type 0
TellsCandidate b seat t trial None = IsNotHeld b.tickets seat t
TellsCandidate b seat t trial (Some true) = HoldsCandidate b seat t trial
TellsCandidate b seat t trial (Some false) = HoldsOther b seat t trial

-- whether a trial comes next, and else another does; none, where asking for one gives none
abbrev pub IsAskedNext : BookState → ℕ → ℕ → Trial → Option Bool → Type 0
IsAskedNext b seat t trial None =
    (other : Trial) (n : BookState) → Turns b seat t (Ok (Next other)) n → ⊥
IsAskedNext b seat t trial (Some true) = ComesNext b seat t trial
IsAskedNext b seat t trial (Some false) =
    (other : Trial) × (other ≢ trial) × ComesNext b seat t other

-- the trials that come next in a search are formed
abbrev pub AreFormed : Space → Type 0
AreFormed s = (place : List ℕ) (trial : Trial) → sheets.IsNextTrial s place trial → IsFormed trial

-- the judged trials come next one after another in a search of a label over the book's store
abbrev pub AreNextIn : BookState → SearchState → List Judgement → Type 0
AreNextIn b s js = AreNextInOrder (space_of b s.label) s.place (map (λ j. j.trial) js)

-- A search has moved over the judgements of a sheet that aren't whole: so many were reported; and
-- whether there is one that is whole, and of the trial that is next then.
pub record MovesOver (b : BookState) (s after : SearchState) (sheet : JudgedSheet) (reported : ℕ)
    (told : Bool) : Type 0 where
  pub label : after.label ≡ s.label
  pub formed : AreFormed (space_of b s.label)
  pub whole : MatchOption sheet.whole ⊤ (λ w. w.verdict ≡ Whole)
  pub moved : Reports (space_of b s.label) s.place sheet.others reported after.place
  pub tells : IsFireable (space_of b s.label) after.place sheet.whole told

-- It is told whether the judgement that is whole is of the next trial; and where the last judgement
-- is whole and of the next trial, it is that one, and told so.
pub record TellsWhole (b : BookState) (seat t : ℕ) (sheet : JudgedSheet)
    (told : Bool) : Type 0 where
  pub told_next : (j : Judgement) → sheet.whole ≡ Some j → told ≡ true → ComesNext b seat t j.trial
  pub next_told : (j : Judgement) → IsLastOf (judgements_of sheet) j → j.verdict ≡ Whole →
      ComesNext b seat t j.trial → (sheet.whole ≡ Some j) × (told ≡ true)

-- So many of the judgements that aren't whole were reported, once the next trial is asked for; and
-- whether that is the one that is whole.
pub record IsReported (b : BookState) (seat t : ℕ) (sheet : JudgedSheet) (reported : ℕ)
    (told : Bool) (n : BookState) : Type 0 where
  pub reports : (next : Result Turn TurnFault) (asked : BookState) → Turns n seat t next asked →
      ReportsAll seat t b (judgements_of sheet) reported next asked
  pub tells : TellsWhole n seat t sheet told

-- the next trial, which is whole, is fired; or memory ran out, and nothing has changed
abbrev pub FiresNext : {E : Type 0} → BookState → ℕ → ℕ → Judgement → Result Fired E → BookState →
    Type 0
FiresNext b seat t j (Ok fired) n =
    FiresOrMisses (with_candidate_of b t (Some j.trial)) seat t j (Ok (firing.Fired fired)) n
FiresNext b seat t j (Err fault) n = n ≡ b

-- a call follows a report, for what the line of trial answers then
pub record FollowsWith (b : BookState) (seat t most : ℕ) (js : List Judgement)
    (following : Following) (n : BookState) : Type 0 where
  pub next : Result Turn TurnFault
  pub asked : BookState
  pub turned : Turns b seat t next asked
  pub follows : Follows asked seat t most js next following n

-- the same, where no judgement is whole
abbrev pub GivesOrDrops : BookState → ℕ → ℕ → ℕ → Following → BookState → Type 0
GivesOrDrops b seat t most following n =
    (js : List Judgement) →
    ((j : Judgement) (trial : Trial) → IsLastOf js j → j.verdict ≡ Whole →
    ComesNext b seat t trial → trial ≢ j.trial) → FollowsWith b seat t most js following n
