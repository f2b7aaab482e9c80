-- Lawful logs with all posted atoms as plain goals from the start.
use Rattle.std.specs.Prelude.{◌≡◌, ℕ, List, [], ◌∷◌}
use Rattle.chr_value.specs.Atoms.{Atom}
use Rattle.chr_log.specs.Events.{Event, Post, Activate, Fire, Drop}
use Rattle.chr_log.specs.declared.events.Version.{Version}
use Rattle.chr_model.specs.Abstract.{Rules, Firing}
use Rattle.chr_model.specs.Goals.{State, start}
use Rattle.chr_model.specs.Steps.{Step}
use Rattle.chr_model.specs.Logs.{posted_by, firing}

-- a state, and the plain goals beside it that have no ticket yet
pub record Gathered : Type 0 where
  pub unticketed : List (Atom ℕ)
  pub state : State

-- A Post entry gives a ticket to a plain goal that is there already. The other entries are the same
-- steps as ever.
abbrev pub StepAmong : Version → Rules → Gathered → Event ℕ → Gathered → Type 0
StepAmong v I g (Post t a) h =
    (g.unticketed ≡ a ∷ h.unticketed) × Step v I g.state (Post t a) h.state
StepAmong v I g (Activate t l) h =
    (g.unticketed ≡ h.unticketed) × Step v I g.state (Activate t l) h.state
StepAmong v I g (Fire t r kept removed) h =
    (g.unticketed ≡ h.unticketed) × Step v I g.state (Fire t r kept removed) h.state
StepAmong v I g (Drop t) h = (g.unticketed ≡ h.unticketed) × Step v I g.state (Drop t) h.state

abbrev pub RunAmong : Version → Rules → Gathered → List (Event ℕ) → Gathered → Type 0
RunAmong v I g [] h = h ≡ g
RunAmong v I g (e ∷ es) h =
    (middle : Gathered) × StepAmong v I g e middle × RunAmong v I middle es h

-- the instances that such a run fires, in order
abbrev pub firings_among : (v : Version) (I : Rules) (es : List (Event ℕ)) (g h : Gathered) →
    RunAmong v I g es h → List Firing
firings_among v I [] g h run = []
firings_among v I (Post t a ∷ es) g h run = firings_among v I es run.0 h run.2
firings_among v I (Activate t l ∷ es) g h run = firings_among v I es run.0 h run.2
firings_among v I (Fire t r kept removed ∷ es) g h run =
    firing run.1.1 ∷ firings_among v I es run.0 h run.2
firings_among v I (Drop t ∷ es) g h run = firings_among v I es run.0 h run.2

-- all posted atoms are plain goals, and nothing has happened; none is left without a ticket
abbrev pub all_posted : List (Event ℕ) → Gathered
all_posted log = record { unticketed = posted_by log; state = start }

abbrev pub none_left : State → Gathered
none_left last = record { unticketed = []; state = last }

-- A lawful log with its posts moved to the front: all posted atoms are plain goals at the start,
-- where the store is empty and the next label is 1, and each ticket is used only after the entry
-- that gives it.
abbrev pub LawfulPostsFirst : Version → Rules → List (Event ℕ) → State → Type 0
LawfulPostsFirst v I log last = RunAmong v I (all_posted log) log (none_left last)
