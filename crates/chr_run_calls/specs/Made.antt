-- Calls that a seat makes together, as lists of calls.
use Rattle.std.specs.Prelude.{◌≡◌, ℕ, ◌<◌, List, length}
use Rattle.std.specs.List.{AllByRecursion}
use Rattle.chr_calls.specs.Books.{BookState}
use Rattle.chr_run_calls.specs.Lists.{SeatCall, Answer, Said}
use Rattle.chr_run_calls.specs.Lists as list
use Rattle.chr_run_calls.specs.CallLists.{AnswersFrom}

-- a claim, a trial, a report, a firing or a drop of this ticket
abbrev pub IsFor : ℕ → list.Call → Type 0
IsFor t (list.Claim u) = u ≡ t
IsFor t (list.Ask u) = u ≡ t
IsFor t (list.Report u word) = u ≡ t
IsFor t (list.ReportBatch u words) = u ≡ t
IsFor t (list.Fire u word) = u ≡ t
IsFor t (list.DropGoal u) = u ≡ t
IsFor t call = ⊥

-- such a call by a seat, and one for any ticket
abbrev pub IsCallFor : ℕ → ℕ → SeatCall → Type 0
IsCallFor seat t c = (c.seat ≡ seat) × IsFor t c.call

abbrev pub IsCallBy : ℕ → SeatCall → Type 0
IsCallBy seat c = (t : ℕ) × IsCallFor seat t c

-- So many calls of a kind lead from one book to another, whatever was called before: a list of
-- calls, with their answers.
pub record AreCalls (Is : SeatCall → Type 0) (count : ℕ) (b n : BookState) : Type 0 where
  pub calls : List SeatCall
  pub answers : List Answer
  pub made : (before : List Said) → AnswersFrom before b calls answers n
  pub each : AllByRecursion Is calls
  pub many : length calls ≡ count

-- fewer than so many
abbrev pub AreFewer : (SeatCall → Type 0) → ℕ → BookState → BookState → Type 0
AreFewer Is most b n = (count : ℕ) × (count < most) × AreCalls Is count b n
