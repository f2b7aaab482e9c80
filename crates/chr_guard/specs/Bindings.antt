-- What the variables of a rule are bound to: a list in the order of their numbers.
use Rattle.std.specs.Prelude.{◌≡◌, ℕ, zero, suc, Bool, true, false, ◌≤◌, ◌↔◌, List, [], ◌∷◌, length, Option, Some, None, IsSome, IfSome, slice_index_or, slice_get}
use Rattle.std.specs.List.{AllByRecursion}
use Rattle.std.specs.Int.{bit_at}
use Rattle.chr_value.specs.Atoms.{Value, said}
use Rattle.chr_value.specs.Bounds.{most_variables}
use Rattle.chr_value.specs.Limits.{IsWithin}
use Rattle.chr_value.specs.declared.value.ValueRef.{ValueRef}
use Rattle.chr_rule.specs.Rules.{Term, Var, Expression, Number, Variable, Operation, Comparison, Compared, Same, Differ, BodyItem, Is, Add}
use Rattle.chr_guard.specs.declared.binding.Known.{Known}
use Rattle.chr_guard.specs.Values.{Valuation}

-- a binding as a valuation; a variable past the end isn't bound
abbrev pub bound_at : List (Option (Value ℕ)) → Valuation
bound_at binding x = slice_index_or binding x None

-- what a variable is bound to, where its bit is 1
abbrev pub told : {A : Type 0} → ℕ → ValueRef A → Option (Value ℕ)
told zero b = None
told (suc n) b = Some (said b)

-- what the variables from one on are bound to, by their bits and their places
abbrev pub told_from : {A : Type 0} → ℕ → ℕ → List (ValueRef A) → List (Option (Value ℕ))
told_from bits x [] = []
told_from bits x (b ∷ places) = told (bit_at bits x) b ∷ told_from bits (suc x) places

-- There are 24 places. The bits of this many variables say which are bound, each to a value within
-- the limits, and those behind are 0.
pub record AreBoundBy {A : Type 0} (bits variables : ℕ) (places : List (ValueRef A)) : Type 0 where
  pub full : length places ≡ most_variables
  pub within : variables ≤ most_variables
  pub behind : (x : ℕ) → variables ≤ x → bit_at bits x ≡ 0
  pub limits : (x : ℕ) → bit_at bits x ≡ 1 → IfSome (slice_get places x) (λ b. IsWithin (said b))

-- the valuation gives each bound variable its value
abbrev pub Extends : Valuation → List (Option (Value ℕ)) → Type 0
Extends v binding = (x : ℕ) (t : Value ℕ) → bound_at binding x ≡ Some t → v x ≡ Some t

-- the valuations of the new binding are those of the old one under which something holds
pub record Narrows (P : Valuation → Type 0) (old new : List (Option (Value ℕ))) : Type 0 where
  pub places : length new ≡ length old
  pub exactly : (v : Valuation) → Extends v new ↔ (Extends v old × P v)

-- there is none
abbrev pub NoneUnder : (Valuation → Type 0) → List (Option (Value ℕ)) → Type 0
NoneUnder P old = (v : Valuation) → Extends v old → P v → ⊥

-- where the answer is yes the binding is narrowed, and where it is no there is none
abbrev pub NarrowsIf : (Valuation → Type 0) → Bool → List (Option (Value ℕ)) →
    List (Option (Value ℕ)) → Type 0
NarrowsIf P true old new = Narrows P old new
NarrowsIf P false old new = NoneUnder P old

-- what the old binding binds is bound to the same in the new one
pub record Keeps (old new : List (Option (Value ℕ))) : Type 0 where
  pub places : length new ≡ length old
  pub extends : Extends (bound_at new) old

-- the variables of these bits are those that are bound
abbrev pub AreKnown : Known → List (Option (Value ℕ)) → Type 0
AreKnown known binding = (x : ℕ) → (bit_at known.bits x ≡ 1) ↔ IsSome (bound_at binding x)

-- each variable of an expression is bound
abbrev pub AllBound : List (Option (Value ℕ)) → Expression → Type 0
AllBound binding (Number n) = Unit {0}
AllBound binding (Variable x) = IsSome (bound_at binding x)
AllBound binding (Operation o a b) = AllBound binding a × AllBound binding b

-- a term is bound, if it is a variable
abbrev pub IsBound : List (Option (Value ℕ)) → Term ℕ → Type 0
IsBound binding t = (x : ℕ) → t ≡ Var x → IsSome (bound_at binding x)

-- all variables of an expression are bound, and each argument of a constraint that is a variable
abbrev pub PartsBound : List (Option (Value ℕ)) → BodyItem ℕ → Type 0
PartsBound binding (Is x e) = AllBound binding e
PartsBound binding (Add s) = AllByRecursion (IsBound binding) s.args

-- each variable of a comparison is bound, if it is one of numbers
abbrev pub SidesBound : List (Option (Value ℕ)) → Comparison ℕ → Type 0
SidesBound binding (Compared r a b) = AllBound binding a × AllBound binding b
SidesBound binding (Same s t) = Unit {0}
SidesBound binding (Differ s t) = Unit {0}
