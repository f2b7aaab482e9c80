-- What a seat was told last for a ticket, and its judgements.
use Rattle.std.specs.Prelude.{⊤, ◌≡◌, ℕ, Bool, true, false, ◌&&◌, if◌then◌else◌, List, [], ◌∷◌, Option, Some, None, is_some, option_and_then, Result, Ok, nat_eq}
use Rattle.chr_search.specs.Verdicts.{Trial}
use Rattle.chr_search.specs.Judged.{Judgement, IsVerdict}
use Rattle.chr_calls.specs.declared.answers.TurnFault.{TurnFault}
use Rattle.chr_calls.specs.Turns.{Turn, Next}
use Rattle.chr_calls.specs.Batches.{Batch, Trials, AreRight}
use Rattle.chr_run_calls.specs.Lists.{Word, Given, Own, Words, GivenAll, OwnBatch, Said}
use Rattle.chr_run_calls.specs.Lists as list

-- ---- what a seat was told

-- the trials that an answer tells: the next one, or a batch; where batches alone count, a batch
abbrev pub trials_of_turn : Result Turn TurnFault → Option (List Trial)
trials_of_turn (Ok (Next trial)) = Some (trial ∷ [])
trials_of_turn told = None

abbrev pub trials_of_batch : Result Batch TurnFault → Option (List Trial)
trials_of_batch (Ok (Trials trials)) = Some trials
trials_of_batch told = None

abbrev pub trials_in : Bool → list.Answer → Option (List Trial)
trials_in batches (list.BatchAsked told) = trials_of_batch told
trials_in true answer = None
trials_in false (list.Asked told) = trials_of_turn told
trials_in false (list.BatchReported report) = trials_of_turn report.next
trials_in false answer = None

-- the call is for the ticket, and such calls are told trials
abbrev pub asks_for : ℕ → list.Call → Bool
asks_for t (list.Ask u) = nat_eq u t
asks_for t (list.AskBatch u) = nat_eq u t
asks_for t (list.ReportBatch u words) = nat_eq u t
asks_for t call = false

-- a call by the seat for the ticket was told trials
abbrev pub tells : Bool → ℕ → ℕ → Said → Bool
tells batches seat t said =
    nat_eq said.by.seat seat && (asks_for t said.by.call && is_some (trials_in batches said.answer))

-- the last answer that told the seat trials for the ticket, where these were the calls and answers
-- so far, the latest first
abbrev pub last_answer : Bool → ℕ → ℕ → List Said → Option list.Answer
last_answer batches seat t [] = None
last_answer batches seat t (said ∷ before) =
    if tells batches seat t said then Some said.answer else last_answer batches seat t before

abbrev pub first_of : Option (List Trial) → Option Trial
first_of (Some (trial ∷ more)) = Some trial
first_of trials = None

-- the last trial that the seat was told for the ticket, and the last batch
abbrev pub last_trial : List Said → ℕ → ℕ → Option Trial
last_trial so_far seat t =
    option_and_then (λ answer. first_of (trials_in false answer)) (last_answer false seat t so_far)

abbrev pub last_batch : List Said → ℕ → ℕ → Option (List Trial)
last_batch so_far seat t = option_and_then (trials_in true) (last_answer true seat t so_far)

-- ---- judgements

-- a word stands for this judgement, which is the right one for its trial
abbrev pub StandsFor : List Said → ℕ → ℕ → Word → Judgement → Type 0
StandsFor so_far seat t (Given given) j = (j ≡ given) × IsVerdict j.trial j.verdict
StandsFor so_far seat t Own j =
    (last_trial so_far seat t ≡ Some j.trial) × IsVerdict j.trial j.verdict

-- it stands for none: the seat was told no trial for the ticket
abbrev pub StandsForNone : List Said → ℕ → ℕ → Word → Type 0
StandsForNone so_far seat t (Given given) = ⊥
StandsForNone so_far seat t Own = last_trial so_far seat t ≡ None

-- these are the judgements of these trials, in order
abbrev pub AreJudged : List Trial → List Judgement → Type 0
AreJudged [] [] = ⊤
AreJudged [] (j ∷ js) = ⊥
AreJudged (trial ∷ trials) [] = ⊥
AreJudged (trial ∷ trials) (j ∷ js) =
    (j.trial ≡ trial) × IsVerdict j.trial j.verdict × AreJudged trials js

-- those of a batch, and none where there was none
abbrev pub AreOfBatch : Option (List Trial) → List Judgement → Type 0
AreOfBatch None js = js ≡ []
AreOfBatch (Some trials) js = AreJudged trials js

-- words stand for these judgements
abbrev pub StandFor : List Said → ℕ → ℕ → Words → List Judgement → Type 0
StandFor so_far seat t (GivenAll given) js = (js ≡ given) × AreRight js
StandFor so_far seat t OwnBatch js = AreOfBatch (last_batch so_far seat t) js
