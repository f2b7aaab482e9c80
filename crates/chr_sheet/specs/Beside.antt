-- The trials beside another: those that come next after it and differ from it in their last label
-- alone.
use Rattle.std.specs.Prelude.{⊤, ◌≡◌, ℕ, ◌+◌, ◌≤◌, true, List, [], ◌∷◌, length}
use Rattle.chr_search.specs.Positions.{at_or_after, just_after}
use Rattle.chr_search.specs.Tree.{LeastFrom}
use Rattle.chr_search.specs.Trials.{Space, IsTrial}
use Rattle.chr_search.specs.Verdicts.{Placed, Trial, position}
use Rattle.chr_search.specs.Fronts.{MayEnd, IsPlacedAfter}
use Rattle.chr_sheet.specs.Sheets.{IsNextTrial}

-- labels with which admissible trials end: the first is the least one from a number on, and each
-- other the least past the one before
abbrev pub AreEnds : Space → ℕ → ℕ → List ℕ → ℕ → List Placed → Type 0
AreEnds s r h ls from [] = ⊤
AreEnds s r h ls from (p ∷ ps) =
    LeastFrom (MayEnd s (r ∷ h ∷ ls)) from p.label × IsPlacedAfter s r h (length ls) p ×
    AreEnds s r h ls (p.label + 1) ps

-- from where the label after these is looked for
abbrev pub next_from : ℕ → List Placed → ℕ
next_from from [] = from
next_from from (p ∷ ps) = next_from (p.label + 1) ps

-- these come next after a trial, one after another
abbrev pub ComeNext : Space → Trial → List Trial → Type 0
ComeNext s t [] = ⊤
ComeNext s t (u ∷ us) = IsNextTrial s (just_after (position t)) u × ComeNext s u us

-- a trial and those that come next after it, at most so many in all
abbrev pub AreInTurn : Space → ℕ → Trial → List Trial → Type 0
AreInTurn s most t ts =
    (more : List Trial) × (ts ≡ t ∷ more) × (length ts ≤ most) × ComeNext s t more

-- the last of a trial and more
abbrev pub last_of : Trial → List Trial → Trial
last_of t [] = t
last_of t (u ∷ us) = last_of u us

-- The admissible trials after one are those of later heads and rules: none is left at its head, and
-- none at that of the last of these.
abbrev pub IsLastAtHead : Space → Trial → Type 0
IsLastAtHead s t =
    (u : List ℕ) → IsTrial s u → at_or_after (just_after (position t)) u ≡ true →
    at_or_after (t.number ∷ (t.head + 1) ∷ []) u ≡ true

abbrev pub EndHead : Space → List Trial → Type 0
EndHead s [] = ⊤
EndHead s (t ∷ more) = IsLastAtHead s (last_of t more)
