-- What is an instance of a rule.
use Rattle.std.specs.Prelude.{◌≡◌, ◌≢◌, ℕ, ℤ, List, [], ◌∷◌, length, map, take, drop, Option, Some}
use Rattle.std.specs.List.{AllByRecursion}
use Rattle.std.specs.Option.{option_map}
use Rattle.chr_value.specs.Atoms.{Value, Atom, Int}
use Rattle.chr_rule.specs.Rules.{Term, RuleAtom, BodyItem, Is, Add, Simpagation}
use Rattle.chr_guard.specs.Values.{Valuation, value_of, both, term_under, value_under, Holds}

-- the values of arguments, where each has one
abbrev pub all_values : (Term ℕ → Option (Value ℕ)) → List (Term ℕ) → Option (List (Value ℕ))
all_values value [] = Some []
all_values value (t ∷ ts) = both (λ x xs. Some (x ∷ xs)) (value t) (all_values value ts)

-- a constraint of a rule by the values of its arguments, where each has one
abbrev pub atom_by : (Term ℕ → Option (Value ℕ)) → RuleAtom ℕ → Option (Atom ℕ)
atom_by value s =
    option_map (λ values. record { name = s.name; args = values }) (all_values value s.args)

-- a head under a valuation
abbrev pub atom_under : Valuation → RuleAtom ℕ → Option (Atom ℕ)
atom_under v s = atom_by (term_under v) s

-- a constraint of a body under a valuation, whose arguments keep the limits of values
abbrev pub made_under : Valuation → RuleAtom ℕ → Option (Atom ℕ)
made_under v s = atom_by (value_under v) s

-- under the valuation the heads are these atoms
abbrev pub AreUnder : Valuation → List (RuleAtom ℕ) → List (Atom ℕ) → Type 0
AreUnder v patterns atoms = map (atom_under v) patterns ≡ map (λ a. Some a) atoms

-- under the valuation the constraints of a body are these atoms
abbrev pub AreMadeUnder : Valuation → List (RuleAtom ℕ) → List (Atom ℕ) → Type 0
AreMadeUnder v patterns atoms = map (made_under v) patterns ≡ map (λ a. Some a) atoms

-- a variable left of an `is` stands for the expression's value
abbrev pub IsRight : Valuation → BodyItem ℕ → Type 0
IsRight v (Is x e) = (n : ℤ) × (value_of v e ≡ Some n) × (v x ≡ Some (Int n))
IsRight v (Add s) = Unit {0}

-- the constraints that a body adds, in written order
abbrev pub added : List (BodyItem ℕ) → List (RuleAtom ℕ)
added [] = []
added (Is x e ∷ items) = added items
added (Add s ∷ items) = s ∷ added items

-- An instance of a rule (Frühwirth): a valuation under which the guard holds, each `is` is right
-- and all arguments have values, those of the body within the limits. It keeps, removes and adds
-- these atoms, and it removes something.
pub record Instance (rule : Simpagation ℕ) (kept removed body : List (Atom ℕ)) : Type 0 where
  pub valuation : Valuation
  pub guard : AllByRecursion (Holds valuation) rule.guard
  pub right : AllByRecursion (IsRight valuation) rule.body
  pub kept_are : AreUnder valuation rule.kept kept
  pub removed_are : AreUnder valuation rule.removed removed
  pub some_removed : removed ≢ []
  pub body_is : AreMadeUnder valuation (added rule.body) body

-- atoms in head order, the kept heads' first, are an instance that adds this body
abbrev pub IsInstance : Simpagation ℕ → List (Atom ℕ) → List (Atom ℕ) → Type 0
IsInstance rule atoms body =
    Instance rule (take (length rule.kept) atoms) (drop (length rule.kept) atoms) body

-- they are none, whatever the body
abbrev pub NoInstance : Simpagation ℕ → List (Atom ℕ) → Type 0
NoInstance rule atoms = (body : List (Atom ℕ)) → IsInstance rule atoms body → ⊥
