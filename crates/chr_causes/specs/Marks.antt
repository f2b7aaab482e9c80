-- Labels that are marked: the mark of label l is at place l - 1.
use Rattle.std.specs.Prelude.{◌≡◌, ℕ, ◌+◌, ◌<◌, Bool, true, false, ◌||◌, ◌↔◌, List, length, slice_index_or}
use Rattle.std.specs.List.{AllByRecursion}
use Rattle.chr_rule.specs.Rules.{Simpagation}
use Rattle.chr_log.specs.Events.{Event}
use Rattle.chr_model.specs.Stores.{among}
use Rattle.chr_causes.specs.Causes.{IsCause}

-- all labels have a place among so many
abbrev pub AreWithin : ℕ → List ℕ → Type 0
AreWithin count labels = AllByRecursion (λ l. (0 < l) × (l < count + 1)) labels

-- these labels are marked too
pub record Adds (labels : List ℕ) (old new : List Bool) : Type 0 where
  pub places : length new ≡ length old
  pub marks : (k : ℕ) →
      slice_index_or new k false ≡ (slice_index_or old k false || among labels (k + 1))

-- those marked are the causes of the label
pub record AreMarks (rules : List (Simpagation ℕ)) (log : List (Event ℕ)) (label : ℕ)
    (marks : List Bool) : Type 0 where
  pub places : length marks ≡ label
  pub none : IsCause rules log label 0 → ⊥
  pub exact : (k : ℕ) → (slice_index_or marks k false ≡ true) ↔ IsCause rules log label (k + 1)
