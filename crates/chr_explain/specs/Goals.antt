-- The atoms of goals by their tickets, and those of labels, event by event.
use Rattle.std.specs.Prelude.{◌≡◌, ℕ, ◌-◌, List, [], ◌∷◌, ◌++◌, Some, slice_get, flat_map}
use Rattle.chr_value.specs.Atoms.{Atom}
use Rattle.chr_rule.specs.Rules.{BodyItem, Is, Add, Simpagation, rule_at}
use Rattle.chr_guard.specs.Values.{Valuation}
use Rattle.chr_guard.specs.Instances.{made_under, IsInstance}
use Rattle.chr_log.specs.Events.{Event, Post, Activate, Fire, Drop}
use Rattle.chr_explain.specs.Atoms.{listed, atoms_of}

-- the atom that an item of a body adds, and the atoms that a body adds, where they have values
abbrev pub item_atoms : Valuation → BodyItem ℕ → List (Atom ℕ)
item_atoms v (Is x e) = []
item_atoms v (Add s) = listed (made_under v s)

abbrev pub body_atoms : Valuation → List (BodyItem ℕ) → List (Atom ℕ)
body_atoms v items = flat_map (item_atoms v) items

-- the body of the instance of the rule whose heads are these atoms makes goals
abbrev pub AddsBody : List (Simpagation ℕ) → ℕ → List (Atom ℕ) → List (Atom ℕ) → List (Atom ℕ) →
    Type 0
AddsBody rules r heads old new =
    (rule : Simpagation ℕ) (body : List (Atom ℕ)) → rule_at rules r ≡ Some rule →
    IsInstance rule heads body → new ≡ old ++ body

-- the label that is given is of the goal of this ticket
abbrev pub AddsGoal : ℕ → List (Atom ℕ) → List (Atom ℕ) → List (Atom ℕ) → Type 0
AddsGoal ticket goals old new =
    (atom : Atom ℕ) → slice_get goals (ticket - 1) ≡ Some atom → new ≡ old ++ atom ∷ []

-- what an event does to the atoms of goals, from ticket 1 on, and to those of labels, from label 1
-- on
abbrev pub Follows : List (Simpagation ℕ) → Event ℕ → List (Atom ℕ) → List (Atom ℕ) →
    List (Atom ℕ) → List (Atom ℕ) → Type 0
Follows rules (Post t a) goals atoms new more = (new ≡ goals ++ a ∷ []) × (more ≡ atoms)
Follows rules (Activate t l) goals atoms new more = (new ≡ goals) × AddsGoal t goals atoms more
Follows rules (Fire t r kept removed) goals atoms new more =
    AddsBody rules r (atoms_of atoms kept ++ atoms_of atoms removed) goals new × (more ≡ atoms)
Follows rules (Drop t) goals atoms new more = (new ≡ goals) × (more ≡ atoms)
