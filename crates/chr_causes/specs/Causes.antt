-- The causes of a label.
use Rattle.std.specs.Prelude.{◌≡◌, ℕ, true, ◌↔◌, List, [], ◌++◌, map, Some, slice_get}
use Rattle.std.specs.List.{AllByRecursion}
use Rattle.std.specs.List.Sorted.{IsStrictlyIncreasing}
use Rattle.chr_rule.specs.Rules.{Simpagation}
use Rattle.chr_log.specs.Events.{Event, Post, Activate, Fire, Drop}
use Rattle.chr_model.specs.Stores.{among}
use Rattle.chr_causes.specs.declared.origins.Origin.{Origin}
use Rattle.chr_causes.specs.declared.causes.Cause.{Cause}
use Rattle.chr_causes.specs.Origins.{IsOrigin}

-- the labels of the heads that an event fires, kept heads' first; another event fires none
abbrev pub heads_of : Event ℕ → List ℕ
heads_of (Post t a) = []
heads_of (Activate t l) = []
heads_of (Fire t r kept removed) = kept ++ removed
heads_of (Drop t) = []

-- the label is a head of the entry that made another label's goal
pub record IsHeadFor (rules : List (Simpagation ℕ)) (log : List (Event ℕ))
    (label head : ℕ) : Type 0 where
  pub origin : Origin
  pub from : IsOrigin rules log label origin
  pub event : Event ℕ
  pub there : slice_get log origin.made ≡ Some event
  pub has : among (heads_of event) head ≡ true

-- The causes of a label: the least set that has the label and, with each label that a firing's body
-- gave, the heads of that firing.
pub data IsCause (rules : List (Simpagation ℕ)) (log : List (Event ℕ)) (label : ℕ) : ℕ →
    Type 0 where
  itself : IsCause rules log label label
  head : {l h : ℕ} → IsCause rules log label l → IsHeadFor rules log l h → IsCause rules log label h

-- exactly the causes of a label, each once, by rising label, with their origins
pub record AreCauses (rules : List (Simpagation ℕ)) (log : List (Event ℕ)) (label : ℕ)
    (list : List Cause) : Type 0 where
  pub rising : IsStrictlyIncreasing (map (λ c. c.label) list)
  pub exact : (l : ℕ) → (among (map (λ c. c.label) list) l ≡ true) ↔ IsCause rules log label l
  pub origins : AllByRecursion (λ c. IsOrigin rules log c.label c.origin) list
