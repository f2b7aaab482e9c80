-- Trials as they are kept: each alone, or those together that make a row, a branch or a column.
use Rattle.std.specs.Prelude.{◌≡◌, ℕ, Bool, true, false, List, [], ◌∷◌, ◌++◌, map, take, Option, Some, slice_get}
use Rattle.chr_search.specs.declared.judged.Verdict.{Verdict}
use Rattle.chr_search.specs.declared.judged.Verdict.TheVariants as verdicts
use Rattle.chr_search.specs.Verdicts.{Trial}
use Rattle.chr_search.specs.Judged.{Judgement}
use Rattle.chr_sheet.specs.declared.trials.Trials.{Trials as CodeTrials}
use Rattle.chr_sheet.specs.declared.trials.Trials.TheVariants as some
use Rattle.chr_sheet.specs.Rows.{trials_of, branch_trials, kept_before, misfit, judged_part}
use Rattle.chr_sheet.specs.Columns.{column_trials}

-- the trials that are kept in one place, and in several
abbrev pub trials_at : {Z : Type 0} → CodeTrials Z → List Trial
trials_at (some.One s) = s.trial ∷ []
trials_at (some.Row r) = trials_of r
trials_at (some.Branch r) = branch_trials r
trials_at (some.Column c) = column_trials c

abbrev pub trials_in : {Z : Type 0} → List (CodeTrials Z) → List Trial
trials_in [] = []
trials_in (x ∷ xs) = trials_at x ++ trials_in xs

-- the verdict on a trial alone that isn't whole: it is a misfit where it is marked, and else a part
abbrev pub marked_verdict : Bool → Verdict
marked_verdict true = verdicts.Misfit
marked_verdict false = verdicts.Part

-- the judgements of those in one place where none is whole: one alone is judged as its mark tells,
-- a branch is a part and then misfits, and the others are misfits
abbrev pub judged_at : {Z : Type 0} → CodeTrials Z → List Judgement
judged_at (some.One s) = record { trial = s.trial; verdict = marked_verdict s.is_misfit } ∷ []
judged_at (some.Row r) = map misfit (trials_of r)
judged_at (some.Branch r) = judged_part r.part ∷ map misfit (trials_of r)
judged_at (some.Column c) = map misfit (column_trials c)

-- the judgements of those in several places
abbrev pub judged_in : {Z : Type 0} → List (CodeTrials Z) → List Judgement
judged_in [] = []
judged_in (x ∷ xs) = judged_at x ++ judged_in xs

-- what is kept before one of the trials is judged as all are up to that one
abbrev pub IsKeptBefore : {Z : Type 0} → CodeTrials Z → ℕ → Option (CodeTrials Z) → Trial → Type 0
IsKeptBefore all n before t =
    (kept_before judged_at before ≡ take n (judged_at all)) × (slice_get (trials_at all) n ≡ Some t)
