-- The atoms of labels.
use Rattle.std.specs.Prelude.{◌≡◌, ℕ, ◌+◌, ◌-◌, ◌<◌, List, [], ◌∷◌, length, take, Option, Some, None, slice_get, flat_map}
use Rattle.chr_value.specs.Atoms.{Atom}
use Rattle.chr_rule.specs.Rules.{Simpagation}
use Rattle.chr_log.specs.Events.{Event}
use Rattle.chr_log.specs.declared.events.Version.{Version}
use Rattle.chr_model.specs.Stores.{atom_at}
use Rattle.chr_model.specs.Goals.{State}
use Rattle.chr_model.specs.Logs.{Lawful}
use Rattle.chr_model.specs.Programs.{Instances}
use Rattle.chr_causes.specs.Origins.{Gives}

-- After some first events of the log the store has the atom under the label.
pub record IsAtomOf (rules : List (Simpagation ℕ)) (log : List (Event ℕ)) (label : ℕ)
    (atom : Atom ℕ) : Type 0 where
  pub version : Version
  pub place : ℕ
  pub state : State
  pub lawful : Lawful version (Instances rules) (take place log) state
  pub there : atom_at state.store label ≡ Some atom

-- the atoms of all labels that the log gives, from label 1 on
pub record AreAtoms (rules : List (Simpagation ℕ)) (log : List (Event ℕ)) (atoms : List (Atom ℕ))
    : Type 0 where
  pub each : (k : ℕ) (atom : Atom ℕ) → slice_get atoms k ≡ Some atom →
      IsAtomOf rules log (k + 1) atom
  pub all : (label : ℕ) → Gives log label → (0 < label) × (label < length atoms + 1)

abbrev pub listed : Option (Atom ℕ) → List (Atom ℕ)
listed (Some atom) = atom ∷ []
listed None = []

-- the atom of a label, where the atoms of those from label 1 on are known
abbrev pub atom_of : List (Atom ℕ) → ℕ → List (Atom ℕ)
atom_of atoms label = listed (slice_get atoms (label - 1))

abbrev pub atoms_of : List (Atom ℕ) → List ℕ → List (Atom ℕ)
atoms_of atoms labels = flat_map (atom_of atoms) labels
