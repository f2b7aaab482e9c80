-- Trials and judgements, where those that differ in their last label alone are kept together.
use Rattle.std.specs.Prelude.{⊤, ◌≡◌, ◌≢◌, ℕ, ◌<◌, ◌≤◌, ◌+◌, List, [], ◌∷◌, ◌++◌, length, map, take, Option, Some, None, MatchOption, slice_get}
use Rattle.std.specs.List.{AllByRecursion}
use Rattle.chr_value.specs.Atoms.{Value}
use Rattle.chr_plan.specs.Orders.{heads_of}
use Rattle.chr_search.specs.declared.judged.Verdict.{Verdict}
use Rattle.chr_search.specs.declared.judged.Verdict.TheVariants as verdicts
use Rattle.chr_search.specs.Verdicts.{Placed, Trial, IsFormed, IsPart}
use Rattle.chr_search.specs.Judged.{Judgement, IsVerdict, IsSettledUnder}
use Rattle.chr_search.specs.Fronts.{lengthened}

-- a part that one head is left of, and labels for that head
pub record Row : Type 0 where
  pub part : Trial
  pub lasts : List Placed

-- its trials have one of these labels each; those of a branch are its part and then they
abbrev pub trials_of : Row → List Trial
trials_of r = map (lengthened r.part) r.lasts

abbrev pub branch_trials : Row → List Trial
branch_trials r = r.part ∷ trials_of r

pub record IsRow (r : Row) : Type 0 where
  pub part : IsPart r.part
  pub some : 1 ≤ length r.lasts
  pub full : length r.part.placed + 1 ≡ length (heads_of r.part.rule)
  pub formed : AllByRecursion IsFormed (trials_of r)

-- all of these are misfits
abbrev pub AreMisfits : List Trial → Type 0
AreMisfits ts = AllByRecursion (λ t. IsVerdict t verdicts.Misfit) ts

-- no verdict is right but that it is whole
abbrev pub MustBeWhole : Trial → Type 0
MustBeWhole t = (v : Verdict) → IsVerdict t v → v ≡ verdicts.Whole

-- so many of the trials are misfits, and the one after them must be whole
pub record AreMisfitsUpTo (ts : List Trial) (n : ℕ) : Type 0 where
  pub few : n ≤ length ts
  pub misfits : AreMisfits (take n ts)
  pub next : MatchOption (slice_get ts n) ⊤ MustBeWhole

-- this is kept of the binding of the trial after so many
abbrev pub IsSettledAt : List Trial → ℕ → List (Option (Option (Value ℕ))) → Type 0
IsSettledAt ts n kept = MatchOption (slice_get ts n) ⊥ (λ t. IsSettledUnder t kept)

-- a judgement of a misfit, and one of a part
abbrev pub misfit : Trial → Judgement
misfit t = record { trial = t; verdict = verdicts.Misfit }

abbrev pub judged_part : Trial → Judgement
judged_part t = record { trial = t; verdict = verdicts.Part }

-- these verdicts are right
abbrev pub AreRight : List Judgement → Type 0
AreRight js = AllByRecursion (λ j. IsVerdict j.trial j.verdict) js

-- judgements in order: those that aren't whole, and after them perhaps one that is
pub record JudgedSheet : Type 0 where
  pub others : List Judgement
  pub whole : Option Judgement

abbrev pub listed : Option Judgement → List Judgement
listed None = []
listed (Some j) = j ∷ []

abbrev pub judgements_of : JudgedSheet → List Judgement
judgements_of sheet = sheet.others ++ listed sheet.whole

-- the last one is whole where it is kept apart; no other is, and their verdicts are right; and all
-- can be counted
pub record IsJudgedSheet (sheet : JudgedSheet) : Type 0 where
  pub whole : MatchOption sheet.whole ⊤ (λ w. w.verdict ≡ verdicts.Whole)
  pub other : AllByRecursion (λ j. j.verdict ≢ verdicts.Whole) sheet.others
  pub right : AreRight sheet.others
  pub few : length (judgements_of sheet) < 18446744073709551616

-- what is kept before a trial
abbrev pub kept_before : {K X : Type 0} → (K → List X) → Option K → List X
kept_before kept None = []
kept_before kept (Some some) = kept some

-- the trials before one, and that one
abbrev pub IsSplitAt : List Trial → ℕ → List Trial → Trial → Type 0
IsSplitAt ts n before t = (before ≡ take n ts) × (slice_get ts n ≡ Some t)

-- the same of a row: its part, the labels before one of them, and the trial of that one
pub record IsCutAt (r : Row) (n : ℕ) (part : Trial) (before : List Placed)
    (t : Trial) : Type 0 where
  pub part_is : part ≡ r.part
  pub split : IsSplitAt (trials_of r) n (trials_of (record { part = part; lasts = before })) t
  pub row : 1 ≤ length before → IsRow (record { part = part; lasts = before })
