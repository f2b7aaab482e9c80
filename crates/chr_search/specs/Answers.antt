-- What a search answers, and where it goes on.
use Rattle.std.specs.Prelude.{◌≡◌, ◌≢◌, Bool, true, false, ℕ, List, Option, Some, None}
use Rattle.chr_search.specs.declared.search.Ask.{Ask as CodeAsk}
use Rattle.chr_search.specs.declared.search.Ask.TheVariants as answers
use Rattle.chr_search.specs.declared.judged.Verdict.{Verdict}
use Rattle.chr_search.specs.declared.judged.Verdict.TheVariants as verdicts
use Rattle.chr_search.specs.Positions.{at_or_after, begins, just_after, past, front}
use Rattle.chr_search.specs.Trials.{Space, IsTrial, IsNext, NoneLeft}
use Rattle.chr_search.specs.Verdicts.{Trial, position, IsFormed, IsTrialOf}
use Rattle.chr_search.specs.Judged.{Judgement}

-- the least admissible trial at or after a position with the store's atoms; done, where there is
-- none
abbrev pub IsAnswer : {Z : Type 0} → Space → List ℕ → CodeAsk Z → Type 0
IsAnswer s place (answers.Trial t) =
    IsNext s place (position t) × IsTrialOf s.rules s.plans s.store t
IsAnswer s place answers.Done = NoneLeft s place

-- whether a trial is that one, and else there is another; none, where there is none
abbrev pub IsToldNext : Space → List ℕ → Trial → Option Bool → Type 0
IsToldNext s place t None = NoneLeft s place
IsToldNext s place t (Some true) = IsNext s place (position t) × IsTrialOf s.rules s.plans s.store t
IsToldNext s place t (Some false) =
    (other : Trial) × IsFormed other × (other ≢ t) × IsNext s place (position other) ×
    IsTrialOf s.rules s.plans s.store other

-- The least admissible trial past a position and all that it begins, which has all its numbers but
-- the last; done, where no admissible trial past it begins with these.
abbrev pub IsAnswerBehind : {Z : Type 0} → Space → List ℕ → CodeAsk Z → Type 0
IsAnswerBehind s place (answers.Trial t) =
    IsNext s (past place) (position t) × (front (position t) ≡ front place) ×
    IsTrialOf s.rules s.plans s.store t
IsAnswerBehind s place answers.Done =
    (t : List ℕ) → IsTrial s t → at_or_after (past place) t ≡ true → begins (front place) t ≡ true →
    ⊥

-- just after a part, and past any other trial
abbrev pub after_verdict : Verdict → List ℕ → List ℕ
after_verdict verdicts.Part t = just_after t
after_verdict verdicts.Whole t = past t
after_verdict verdicts.Misfit t = past t

abbrev pub after_judging : Judgement → List ℕ
after_judging j = after_verdict j.verdict (position j.trial)
