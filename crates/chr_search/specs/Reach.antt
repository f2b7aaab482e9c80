-- The reach of an active label: the full admissible trials that are labelled instances.
use Rattle.std.specs.Prelude.{◌≡◌, ℕ, zero, suc, ◌<◌, true, ◌⊎◌, List, ◌∷◌, ◌++◌, map, Option, Some, slice_index_or}
use Rattle.chr_value.specs.Atoms.{Atom}
use Rattle.chr_model.specs.Stores.{Store, atom_at, Labelled}
use Rattle.chr_model.specs.Programs.{Instances}
use Rattle.chr_plan.specs.Plans.{plan_at}
use Rattle.chr_plan.specs.declared.order.Step.{Step}
use Rattle.chr_search.specs.Positions.{at_or_after}
use Rattle.chr_search.specs.Trials.{Space, IsTrial}

-- the label that stands at a head, of labels in head order
abbrev pub label_of : List ℕ → ℕ → ℕ
label_of ls zero = 0
label_of ls (suc i) = slice_index_or ls i 0

-- the labels of an instance in a plan's order
abbrev pub labels_in : List ℕ → List Step → List ℕ
labels_in ls order = map (λ step. label_of ls step.head) order

-- the trial has all labels of a labelled instance, in the plan's order
pub record Reach (s : Space) (t : List ℕ) : Type 0 where
  pub trial : IsTrial s t
  pub rule : ℕ
  pub head : ℕ
  pub order : List Step
  pub order_is : plan_at s.plans rule head ≡ Some order
  pub kept : List ℕ
  pub removed : List ℕ
  pub body : List (Atom ℕ)
  pub instance : Labelled (Instances s.rules) s.store rule kept removed body
  pub is : t ≡ rule ∷ head ∷ labels_in (kept ++ removed) order

-- the labels that an admissible trial may have
abbrev pub MayHave : Space → ℕ → Type 0
MayHave s l = (l ≡ s.active) ⊎ (l < s.bound)

-- of these labels the other store has none that the space's own hasn't, with the same atom
abbrev pub HasNoMore : Space → Store → Type 0
HasNoMore s store =
    (l : ℕ) (a : Atom ℕ) → MayHave s l → atom_at store l ≡ Some a → atom_at s.store l ≡ Some a

-- the same space over another store
abbrev pub over : Space → Store → Space
over s store = record s { store = store }

-- What a search keeps between its steps: no trial of the reach lies before its position, and its
-- candidate, if it has one, is before every other admissible trial at or after the position.
pub record Searching (s : Space) (place : List ℕ) (candidate : Option (List ℕ)) : Type 0 where
  pub kept : (t : List ℕ) → Reach s t → at_or_after place t ≡ true
  pub least : (c t : List ℕ) → candidate ≡ Some c → IsTrial s t → at_or_after place t ≡ true →
      at_or_after c t ≡ true

-- a search: an active label and a position
pub record SearchState : Type 0 where
  pub label : ℕ
  pub place : List ℕ
