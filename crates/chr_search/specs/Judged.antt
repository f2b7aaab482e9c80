-- The verdicts on a trial.
use Rattle.std.specs.Prelude.{◌≡◌, ℕ, List, Option, map}
use Rattle.chr_value.specs.Atoms.{Value}
use Rattle.chr_guard.specs.Settled.{mark_of}
use Rattle.chr_search.specs.Verdicts.{Trial, IsWhole, IsPart, IsWholeUnder}
use Rattle.chr_search.specs.declared.judged.Verdict.{Verdict}
use Rattle.chr_search.specs.declared.judged.Verdict.TheVariants as verdicts

-- whole; a part; or a misfit, which is neither
abbrev pub IsVerdict : Trial → Verdict → Type 0
IsVerdict t verdicts.Whole = IsWhole t
IsVerdict t verdicts.Part = IsPart t
IsVerdict t verdicts.Misfit = (IsWhole t → ⊥) × (IsPart t → ⊥)

-- a trial that has been judged
pub record Judgement : Type 0 where
  pub trial : Trial
  pub verdict : Verdict

-- what is kept of the binding of the instance that a trial is
pub record IsSettledUnder (t : Trial) (kept : List (Option (Option (Value ℕ)))) : Type 0 where
  pub binding : List (Option (Value ℕ))
  pub under : IsWholeUnder t binding
  pub settled : kept ≡ map mark_of binding
