-- The next trials of a search, read, judged and reported together.
use Rattle.std.specs.Prelude.{⊤, ◌≡◌, ◌≢◌, ◌⊎◌, ◌↔◌, ℕ, zero, suc, ◌+◌, ◌≤◌, Bool, false, IsTrue, List, [], ◌∷◌, ◌++◌, length, Option, Some, None}
use Rattle.chr_search.specs.declared.judged.Verdict.TheVariants.{Whole}
use Rattle.chr_search.specs.declared.front.Front.{Front}
use Rattle.chr_search.specs.Fronts.{IsFront}
use Rattle.chr_search.specs.Positions.{just_after, past}
use Rattle.chr_search.specs.Trials.{Space, IsNext, NoneLeft}
use Rattle.chr_search.specs.Verdicts.{Trial, position, labels, IsTrialOf}
use Rattle.chr_search.specs.Answers.{after_judging}
use Rattle.chr_search.specs.Judged.{Judgement}

-- a trial is the least admissible one at or after a position
abbrev pub IsNextTrial : Space → List ℕ → Trial → Type 0
IsNextTrial s place t = IsNext s place (position t) × IsTrialOf s.rules s.plans s.store t

-- The trials at or after a position, in order, whatever the verdicts on them: as many as are asked
-- for, or fewer where none is left. A part leads to the one after it, and after a misfit none lies
-- between.
abbrev pub AreNext : Space → ℕ → List ℕ → List Trial → Type 0
AreNext s zero place [] = ⊤
AreNext s zero place (t ∷ ts) = ⊥
AreNext s (suc most) place [] = NoneLeft s place
AreNext s (suc most) place (t ∷ ts) =
    IsNextTrial s place t × AreNext s most (just_after (position t)) ts

-- these trials come next one after another, whatever the verdicts on them: the first is the next
-- one at or after a position
abbrev pub AreNextInOrder : Space → List ℕ → List Trial → Type 0
AreNextInOrder s place [] = ⊤
AreNextInOrder s place (t ∷ ts) =
    IsNextTrial s place t × AreNextInOrder s (just_after (position t)) ts

-- these are the next trials, at most so many, and from the position on lie those that come after
-- the last of them
abbrev pub AreNextTogether : Space → ℕ → List ℕ → List Trial → List ℕ → Type 0
AreNextTogether s most place ts after =
    (1 ≤ length ts) × (length ts ≤ most) ×
    ((left : ℕ) (more : List Trial) → AreNext s left after more →
    AreNext s (length ts + left) place (ts ++ more))

-- the trials are judged in order, up to the first that is whole
abbrev pub AreJudgedInOrder : List Trial → List Judgement → Type 0
AreJudgedInOrder ts [] = ts ≡ []
AreJudgedInOrder [] (j ∷ js) = ⊥
AreJudgedInOrder (t ∷ ts) (j ∷ js) =
    (j.trial ≡ t) ×
    (((j.verdict ≡ Whole) × (js ≡ [])) ⊎ ((j.verdict ≢ Whole) × AreJudgedInOrder ts js))

-- For each judgement in order: where it is of the next trial, and isn't whole, the search moves on
-- after it; else it is passed over. So many were reported, and this is where the search goes on.
pub data Reports (s : Space) : List ℕ → List Judgement → ℕ → List ℕ → Type 0 where
  done : (place : List ℕ) → Reports s place [] 0 place
  moves : (place after : List ℕ) (j : Judgement) (more : List Judgement) (count : ℕ)
      → IsNextTrial s place j.trial → j.verdict ≢ Whole →
      Reports s (after_judging j) more count after →
      Reports s place (j ∷ more) (suc count) after
  passes : (place after : List ℕ) (j : Judgement) (more : List Judgement) (count : ℕ)
      → (IsNextTrial s place j.trial → ⊥) → Reports s place more count after →
      Reports s place (j ∷ more) count after

-- where a search goes on after judgements: as after the last one of them
abbrev pub after_all : List ℕ → List Judgement → List ℕ
after_all place [] = place
after_all place (j ∷ js) = after_all (after_judging j) js

-- whether there is a judgement that is whole, and it is of the next trial
abbrev pub IsFireable : Space → List ℕ → Option Judgement → Bool → Type 0
IsFireable s place None told = told ≡ false
IsFireable s place (Some j) told = IsTrue told ↔ IsNextTrial s place j.trial

-- the trials that begin with this one
abbrev pub IsFrontOf : {Z : Type 0} → Space → Trial → Front Z → Type 0
IsFrontOf s part f = IsFront s part.number part.head (labels part) f

-- where the search goes on after the trials that end with these labels, of which this is the last
abbrev pub place_after : List ℕ → Trial → Option ℕ → List ℕ
place_after place part None = place
place_after place part (Some last) = past (position part ++ last ∷ [])
