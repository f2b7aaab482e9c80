-- Trials of the active label alone over a store.
use Rattle.std.specs.Prelude.{◌≡◌, ℕ, List, [], ◌∷◌, Option, Some, None}
use Rattle.chr_rule.specs.Rules.{Simpagation}
use Rattle.chr_model.specs.Stores.{Store, atom_at}
use Rattle.chr_plan.specs.Plans.{ArePlans}
use Rattle.chr_search.specs.Positions.{past}
use Rattle.chr_search.specs.Trials.{Space}
use Rattle.chr_search.specs.Verdicts.{Placed, Trial}

-- a trial has the active label alone, with its atom
pub record IsAloneIn (store : Store) (active : ℕ) (t : Trial) : Type 0 where
  pub placed : Placed
  pub placed_is : t.placed ≡ placed ∷ []
  pub label : placed.label ≡ active
  pub live : atom_at store active ≡ Some placed.atom

-- the same, where a search looks through these rules and their plans
pub record IsAloneOf (s : Space) (rules : List (Simpagation ℕ)) (t : Trial) : Type 0 where
  pub rules_are : s.rules ≡ rules
  pub plans : ArePlans s.rules s.plans
  pub alone : IsAloneIn s.store s.active t

-- where the search goes on after the trials of a label alone, of which this rule and head are those
-- of the last
abbrev pub place_past : List ℕ → ℕ → Option (ℕ × ℕ) → List ℕ
place_past place label None = place
place_past place label (Some o) = past (o.0 ∷ o.1 ∷ label ∷ [])
