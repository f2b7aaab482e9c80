-- Admissible trials in plain words.
use Rattle.std.specs.Prelude.{◌≡◌, ℕ, List, [], ◌∷◌, ◌++◌, length, Some, slice_get}
use Rattle.chr_value.specs.Atoms.{Atom}
use Rattle.chr_rule.specs.Rules.{RuleAtom, Simpagation, head_at}
use Rattle.chr_guard.specs.Values.{Valuation}
use Rattle.chr_model.specs.Stores.{atom_at, Distinct}
use Rattle.chr_model.specs.Searches.{AllBelow}
use Rattle.chr_plan.specs.declared.order.Step.{Step}
use Rattle.chr_search.specs.Trials.{Join, Space, join_in, IsPlanned, IsLiveFor, HasKeyValue, Fit}

-- each of the labels, at the steps from the first on
abbrev pub AreLiveFor : Join → List Step → List ℕ → Type 0
AreLiveFor j steps [] = Unit {0}
AreLiveFor j [] (l ∷ ls) = ⊥
AreLiveFor j (step ∷ steps) (l ∷ ls) = IsLiveFor j step l × AreLiveFor j steps ls

-- Admissible labels: the active one and then others below the bound; all are live, each with its
-- head's predicate; those before the last are distinct and fit; and the last has its plan's key
-- value under that fit.
pub record AreAdmissible (j : Join) (labels : List ℕ) : Type 0 where
  pub partners : List ℕ
  pub first : labels ≡ j.active ∷ partners
  pub below : AllBelow j.bound partners
  pub live : AreLiveFor j j.order labels
  pub before : List ℕ
  pub last : ℕ
  pub ends : labels ≡ before ++ last ∷ []
  pub distinct : Distinct before
  pub valuation : Valuation
  pub fits : Fit j valuation j.order before
  pub step : Step
  pub step_is : slice_get j.order (length before) ≡ Some step
  pub head : RuleAtom ℕ
  pub head_is : head_at j.rule step.head ≡ Some head
  pub atom : Atom ℕ
  pub atom_is : atom_at j.store last ≡ Some atom
  pub key : HasKeyValue valuation head step.key atom

-- An admissible trial: a rule, a head that has a plan, and admissible labels.
pub record IsAdmissible (s : Space) (r h : ℕ) (labels : List ℕ) : Type 0 where
  pub rule : Simpagation ℕ
  pub order : List Step
  pub planned : IsPlanned s r h rule order
  pub labels_are : AreAdmissible (join_in s rule order) labels
