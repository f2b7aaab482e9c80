-- What an explanation tells of a cause.
use Rattle.std.specs.Prelude.{◌≡◌, ℕ, ◌+◌, ◌-◌, ◌<◌, Bool, true, false, List, [], ◌++◌, Option, Some, None, MatchOption, length, slice_get, slice_index_or, if◌then◌else◌}
use Rattle.std.specs.List.{AllByRecursion}
use Rattle.chr_value.specs.Atoms.{Value, Atom}
use Rattle.chr_rule.specs.Rules.{Simpagation, rule_at}
use Rattle.chr_guard.specs.Instances.{NoInstance}
use Rattle.chr_guard.specs.Matching.{IsInstanceUnder}
use Rattle.chr_log.specs.Events.{Event, Post, Activate, Fire, Drop}
use Rattle.chr_model.specs.Stores.{among}
use Rattle.chr_causes.specs.declared.causes.Cause.{Cause}
use Rattle.chr_explain.specs.Atoms.{atoms_of}
use Rattle.chr_explain.specs.declared.reasons.Reason.{Reason as CodeReason}

-- a cause, its atom, the values of the variables of the firing that gave it, and the entry that
-- removed it
pub record Reason : Type 0 where
  pub cause : Cause
  pub atom : Atom ℕ
  pub values : Option (List (Option (Value ℕ)))
  pub removed : Option ℕ

abbrev pub reason_of : {Z : Type 0} → CodeReason Z → Reason
reason_of r = record { cause = r.cause; atom = r.atom.now; values = r.values; removed = r.removed }

-- the values of a rule's variables in the instance whose heads are these atoms
abbrev pub AreRuleValues : Option (Simpagation ℕ) → List (Atom ℕ) →
    Option (List (Option (Value ℕ))) → Type 0
AreRuleValues (Some rule) heads values =
    MatchOption values (NoInstance rule heads) (IsInstanceUnder rule heads)
AreRuleValues None heads values = values ≡ None

-- the values of the variables of an event that is a firing, by the atoms of all labels
abbrev pub AreValues : List (Simpagation ℕ) → List (Atom ℕ) → Event ℕ →
    Option (List (Option (Value ℕ))) → Type 0
AreValues rules atoms (Fire t r kept removed) values =
    AreRuleValues (rule_at rules r) (atoms_of atoms kept ++ atoms_of atoms removed) values
AreValues rules atoms (Post t a) values = values ≡ None
AreValues rules atoms (Activate t l) values = values ≡ None
AreValues rules atoms (Drop t) values = values ≡ None

-- the labels that an event removes
abbrev pub removed_of : Event ℕ → List ℕ
removed_of (Post t a) = []
removed_of (Activate t l) = []
removed_of (Fire t r kept removed) = removed
removed_of (Drop t) = []

-- the event at the place removes the label
pub record Removes (log : List (Event ℕ)) (label place : ℕ) : Type 0 where
  pub event : Event ℕ
  pub there : slice_get log place ≡ Some event
  pub has : among (removed_of event) label ≡ true

-- the entry that removed a label, if one did
abbrev pub IsRemoval : List (Event ℕ) → ℕ → Option ℕ → Type 0
IsRemoval log label removal =
    MatchOption removal ((place : ℕ) → Removes log label place → ⊥)
    (λ place. Removes log label place)

-- the removals of this many labels, from label 1 on
pub record AreRemovals (log : List (Event ℕ)) (labels : ℕ) (list : List (Option ℕ)) : Type 0 where
  pub places : length list ≡ labels
  pub each : (k : ℕ) → k < labels → IsRemoval log (k + 1) (slice_index_or list k None)

-- the removal of a cause is told where it is asked, and else none
abbrev pub TellsRemoval : Bool → List (Event ℕ) → ℕ → Option ℕ → Type 0
TellsRemoval true log label removal = IsRemoval log label removal
TellsRemoval false log label removal = removal ≡ None

-- the reason of a cause
pub record IsReason (rules : List (Simpagation ℕ)) (log : List (Event ℕ)) (atoms : List (Atom ℕ))
    (gone : Bool) (reason : Reason) : Type 0 where
  pub event : Event ℕ
  pub there : slice_get log reason.cause.origin.made ≡ Some event
  pub atom : slice_get atoms (reason.cause.label - 1) ≡ Some reason.atom
  pub values : AreValues rules atoms event reason.values
  pub removed : TellsRemoval gone log reason.cause.label reason.removed

-- these labels are marked as removed at the place, from label 1 on
pub record Marks (labels : List ℕ) (place : ℕ) (old new : List (Option ℕ)) : Type 0 where
  pub places : length new ≡ length old
  pub marks : (k : ℕ) → k < length old →
      slice_index_or new k None ≡
      (if among labels (k + 1) then Some place else slice_index_or old k None)

-- the removals of causes, where they are asked for, and else none
abbrev pub HasRemovals : Bool → List (Event ℕ) → List Cause → List (Option ℕ) → Type 0
HasRemovals true log causes removals =
    AllByRecursion (λ c. IsRemoval log c.label (slice_index_or removals (c.label - 1) None)) causes
HasRemovals false log causes removals = removals ≡ []
