-- Batches and reports of batches: they keep what a book keeps, and move its searches on.
use Rattle.std.proofs.Common.{ℕ, ◌≤◌, List, Result, Ok, Err, arith}
use Rattle.chr_search.specs.Judged.{Judgement}
use Rattle.chr_calls.specs.declared.answers.TurnFault.{TurnFault}
use Rattle.chr_calls.specs.Turns.{Turn, Next}
use Rattle.chr_calls.specs.Turns as turn
use Rattle.chr_calls.specs.Books.{BookState}
use Rattle.chr_calls.specs.Batches.{Batch, Trials, Done, Gone, BatchReport, Batches, ReportsAll, asks, ends, reports, passes, ReportsBatch, AreRight}
use Rattle.chr_calls.specs.Headline.{IsKept}
use Rattle.chr_calls.specs.Moves.{MovesOn}
use Rattle.chr_calls.proofs.Leading.{Searches, searches_by, first_stays, then_stays}
use Rattle.chr_calls.proofs.Turning.{turns_search, reports_search, report_moves}

pub batches_search : (b n : BookState) (seat t : ℕ) (answer : Result Batch TurnFault) → Batches b seat t answer n → Searches b n
batches_search b n seat t (Err fault) h = turns_search b n seat t (Err fault) h
batches_search b n seat t (Ok Gone) h = turns_search b n seat t (Ok turn.Gone) h
batches_search b n seat t (Ok Done) h = turns_search b n seat t (Ok turn.Done) h
batches_search b n seat t (Ok (Trials trials)) h = turns_search b n seat t (Ok (Next h.first)) h.turn

pub batches_keep : (b n : BookState) (seat t : ℕ) (answer : Result Batch TurnFault) → Batches b seat t answer n → IsKept b → IsKept n
batches_keep b n seat t answer h = (batches_search b n seat t answer h).kept

-- a report that is taken moves the search on
pub all_search : (seat t : ℕ) (b n : BookState) (js : List Judgement) (reported : ℕ) (next : Result Turn TurnFault) → AreRight js → ReportsAll seat t b js reported next n → Searches b n × (IsKept b → 1 ≤ reported → MovesOn b t n)
all_search seat t b n js r next right (asks b1 n1 next1 turned) = (turns_search b n seat t next turned, λ k some. absurd (omega arith))
all_search seat t b n js r next right (ends b1 n1 j more next1 turned ended) = (turns_search b n seat t next turned, λ k some. absurd (omega arith))
all_search seat t b n js r next right (reports b1 asked moved n1 j more done reported next1 turned told rest) =
    let first = turns_search b asked seat t (Ok (Next j.trial)) turned in
    let then = reports_search asked moved seat t j (Ok done) right.0 told in
    let others = all_search seat t moved n more reported next right.1 rest in (
      searches_by b asked n first (searches_by asked moved n then others.0),
      λ k some. first_stays b asked n t k first (then_stays asked moved n t (then.kept (first.kept k)) (report_moves asked moved seat t j done told (first.kept k)) others.0),
    )
all_search seat t b n js r next right (passes b1 asked n1 trial j more reported next1 other turned rest) =
    let first = turns_search b asked seat t (Ok (Next trial)) turned in
    let others = all_search seat t asked n more reported next right.1 rest in
    (searches_by b asked n first others.0, λ k some. first_stays b asked n t k first (others.1 (first.kept k) some))

pub batch_reports_keep : (b n : BookState) (seat t : ℕ) (js : List Judgement) (answer : BatchReport) → AreRight js → ReportsBatch b seat t js answer n → IsKept b → IsKept n
batch_reports_keep b n seat t js answer right h = (all_search seat t b n js answer.reported answer.next right h).0.kept

pub report_batch_moves : (b n : BookState) (seat t : ℕ) (js : List Judgement) (answer : BatchReport) → AreRight js → ReportsBatch b seat t js answer n → 1 ≤ answer.reported → IsKept b → MovesOn b t n
report_batch_moves b n seat t js answer right h some k = (all_search seat t b n js answer.reported answer.next right h).1 k some
