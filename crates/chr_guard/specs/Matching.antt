-- When a rule's heads are atoms, and which body it then adds.
use Rattle.std.specs.Prelude.{◌≡◌, ◌↔◌, ◌<◌, ℕ, ◌++◌, Bool, true, false, List, [], ◌∷◌, length, map}
use Rattle.std.specs.Prelude.{Option, Some, None, ◌⊎◌, slice_set, IsTrue, IsSome, MatchOption}
use Rattle.std.specs.List.{AllByRecursion}
use Rattle.std.specs.Option.{option_map}
use Rattle.chr_value.specs.Atoms.{Value, Atom, Int}
use Rattle.chr_rule.specs.Rules.{Term, Var, Given, Open, Simpagation, head_at, BodyItem, Is, Add}
use Rattle.chr_rule.specs.Scope.{known_after_heads}
use Rattle.chr_guard.specs.Values.{Valuation, term_under, value_of}
use Rattle.chr_guard.specs.Bindings.{bound_at, Extends, Narrows, NarrowsIf}
use Rattle.chr_guard.specs.Instances.{atom_under, made_under, AreUnder, AreMadeUnder, IsRight, added, IsInstance, NoInstance}

-- under the valuation these terms are these values
abbrev pub TermsAre : List (Term ℕ) → List (Value ℕ) → Valuation → Type 0
TermsAre ts values v = map (term_under v) ts ≡ map (λ t. Some t) values

-- a binding once a term stands for a value
abbrev pub with_term : List (Option (Value ℕ)) → Term ℕ → Value ℕ → List (Option (Value ℕ))
with_term binding (Var x) a = slice_set binding x (Some a)
with_term binding (Given b) a = binding
with_term binding (Open s ts) a = binding

-- a term is a variable that is free, or stands for the value already
abbrev pub TakesValue : List (Option (Value ℕ)) → Term ℕ → Value ℕ → Type 0
TakesValue binding (Var x) a = (bound_at binding x ≡ None) ⊎ (bound_at binding x ≡ Some a)
TakesValue binding (Given b) a = b ≡ a
TakesValue binding (Open s ts) a = ⊥

-- the same of terms, one after another
abbrev pub TakeValues : List (Option (Value ℕ)) → List (Term ℕ) → List (Value ℕ) → Type 0
TakeValues binding [] [] = Unit {0}
TakeValues binding (t ∷ ts) (a ∷ as') =
    TakesValue binding t a × TakeValues (with_term binding t a) ts as'
TakeValues binding _ _ = ⊥

-- under the valuation the head of that number is that atom
abbrev pub IsAtHead : Simpagation ℕ → Valuation → ℕ × Atom ℕ → Type 0
IsAtHead rule v place = option_map (atom_under v) (head_at rule place.0) ≡ Some (Some place.1)

-- under the valuation all these heads are these atoms
abbrev pub AreAtHeads : Simpagation ℕ → List (ℕ × Atom ℕ) → Valuation → Type 0
AreAtHeads rule placed v = AllByRecursion (IsAtHead rule v) placed

-- under the valuation the rule's heads are these atoms, in head order
abbrev pub HeadsAre : Simpagation ℕ → List (Atom ℕ) → Valuation → Type 0
HeadsAre rule atoms v = AreUnder v (rule.kept ++ rule.removed) atoms

-- the one binding for what is asked of the valuations: those that extend it are those for which
-- that holds
pub record IsFit (rule : Simpagation ℕ) (P : Valuation → Type 0) (binding : List (Option (Value ℕ)))
    : Type 0 where
  pub places : length binding ≡ rule.variables
  pub exactly : (v : Valuation) → Extends v binding ↔ P v

-- the variable occurs in a head
abbrev pub IsOfHeads : Simpagation ℕ → ℕ → Type 0
IsOfHeads rule x = (n : ℕ) × (known_after_heads 0 (rule.kept ++ rule.removed) ≡ Some n) × (x < n)

-- The valuation completes a binding of the heads' variables: each `is` is right, and a variable of
-- the heads has the value that it is bound to, or none.
pub record Completes (rule : Simpagation ℕ) (binding : List (Option (Value ℕ))) (v : Valuation)
    : Type 0 where
  pub extends : Extends v binding
  pub heads : (x : ℕ) → IsOfHeads rule x → v x ≡ bound_at binding x
  pub right : AllByRecursion (IsRight v) rule.body

-- the body under a binding of the heads' variables, where each `is` and each argument has a value
pub record IsBody (rule : Simpagation ℕ) (binding : List (Option (Value ℕ))) (body : List (Atom ℕ))
    : Type 0 where
  pub valuation : Valuation
  pub completes : Completes rule binding valuation
  pub body_is : AreMadeUnder valuation (added rule.body) body

-- Where the answer is yes, the variable left of an `is` is bound to the expression's value, and the
-- arguments of a constraint have values. Where it is no, it is bound to another or there is no value.
abbrev pub BindsIf : BodyItem ℕ → Bool → List (Option (Value ℕ)) → List (Option (Value ℕ)) → Type 0
BindsIf (Is x e) told old new =
    MatchOption (value_of (bound_at old) e) (told ≡ false)
    (λ n. NarrowsIf (λ v. v x ≡ Some (Int n)) told old new)
BindsIf (Add s) told old new =
    (IsTrue told ↔ IsSome (made_under (bound_at old) s)) × (new ≡ old)

-- The new binding is the old one with the values of the variables left of an `is`, and under it
-- the body's arguments have values.
pub record IsCompleted (rule : Simpagation ℕ) (old new : List (Option (Value ℕ))) : Type 0 where
  pub narrows : Narrows (λ v. AllByRecursion (IsRight v) rule.body) old new
  pub heads : (x : ℕ) → IsOfHeads rule x → bound_at new x ≡ bound_at old x
  pub body : List (Atom ℕ)
  pub body_is : AreMadeUnder (bound_at new) (added rule.body) body

-- where the answer is yes the binding is completed, and where it is no there is no body under it
abbrev pub CompletedIf : Simpagation ℕ → Bool → List (Option (Value ℕ)) → List (Option (Value ℕ)) →
    Type 0
CompletedIf rule true old new = IsCompleted rule old new
CompletedIf rule false old new = (body : List (Atom ℕ)) → IsBody rule old body → ⊥

-- the atoms are an instance that adds the body, and this is the one binding of the rule's variables
pub record IsInstanceUnder (rule : Simpagation ℕ) (atoms : List (Atom ℕ))
    (binding : List (Option (Value ℕ))) : Type 0 where
  pub fit : IsFit rule (λ v. HeadsAre rule atoms v × AllByRecursion (IsRight v) rule.body) binding
  pub body : List (Atom ℕ)
  pub instance : IsInstance rule atoms body
  pub body_is : AreMadeUnder (bound_at binding) (added rule.body) body

-- where the answer is yes this is the binding of the instance, and where it is no the atoms are
-- none
abbrev pub IsInstanceIf : Simpagation ℕ → List (Atom ℕ) → Bool → List (Option (Value ℕ)) → Type 0
IsInstanceIf rule atoms true binding = IsInstanceUnder rule atoms binding
IsInstanceIf rule atoms false binding = NoInstance rule atoms
