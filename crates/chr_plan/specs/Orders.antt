-- The order in which the heads of a rule are tried, beginning with one of them.
use Rattle.std.specs.Prelude.{◌≡◌, ℕ, ◌+◌, ◌≤◌, Bool, true, false, ◌==◌, ◌||◌, ◌&&◌, not, suc, is_some, position, List, [], ◌∷◌, ◌++◌, length, Option, Some, None, IsSome}
use Rattle.std.specs.List.{list_any}
use Rattle.std.specs.Option.{option_map}
use Rattle.chr_rule.specs.Rules.{Term, Var, Given, Open, Terms, End, And, RuleAtom}
pub use Rattle.chr_rule.specs.Rules.{heads_of, head_in}
use Rattle.chr_plan.specs.declared.order.Step.{Step}

-- whether the variable stands in a term
abbrev mutual
  pub stands_in : ℕ → Term ℕ → Bool
  stands_in x (Var y) = x == y
  stands_in x (Given v) = false
  stands_in x (Open s ts) = stands_among x ts

  pub stands_among : ℕ → Terms ℕ → Bool
  stands_among x End = false
  stands_among x (And t ts) = stands_in x t || stands_among x ts

-- whether it stands in one of the arguments
abbrev pub has_variable : ℕ → List (Term ℕ) → Bool
has_variable x args = list_any (stands_in x) args

abbrev pub binds : Option (RuleAtom ℕ) → ℕ → Bool
binds None x = false
binds (Some head) x = has_variable x head.args

-- a variable is bound after these steps: one of their heads has it
abbrev pub is_bound : List (RuleAtom ℕ) → List Step → ℕ → Bool
is_bound heads before x = list_any (λ s. binds (head_in heads s.head) x) before

-- an argument is known: a value as it is written, or a bound variable; never a functor with
-- variables in it
abbrev pub is_known : (ℕ → Bool) → Term ℕ → Bool
is_known bound (Var x) = bound x
is_known bound (Given v) = true
is_known bound (Open s ts) = false

abbrev pub key_in : (ℕ → Bool) → Option (RuleAtom ℕ) → Option ℕ
key_in bound None = None
key_in bound (Some head) = option_map (λ i. i + 1) (position (is_known bound) head.args)

-- the key of a head after these steps: its first place, from 1, whose argument is known
abbrev pub key_of : List (RuleAtom ℕ) → List Step → ℕ → Option ℕ
key_of heads before j = key_in (is_bound heads before) (head_in heads j)

abbrev pub is_named : List Step → ℕ → Bool
is_named before j = list_any (λ s. s.head == j) before

-- a variable that isn't bound
abbrev pub is_new : (ℕ → Bool) → Term ℕ → Bool
is_new bound (Var x) = not (bound x)
is_new bound (Given v) = false
is_new bound (Open s ts) = false

-- whether a place is the key's
abbrev pub is_key : Option ℕ → ℕ → Bool
is_key None i = false
is_key (Some place) i = place == i

-- whether arguments, from a place on, are variables that are new there, but for the one at the
-- key's place: none is bound or stands before it
abbrev pub are_new : (ℕ → Bool) → Option ℕ → ℕ → List (Term ℕ) → Bool
are_new bound key i [] = true
are_new bound key i (t ∷ ts) =
    (is_key key i || is_new bound t) && are_new (λ x. stands_in x t || bound x) key (suc i) ts

abbrev pub fresh_in : (ℕ → Bool) → Option (RuleAtom ℕ) → Option ℕ → Bool
fresh_in bound None key = false
fresh_in bound (Some head) key = are_new bound key 1 head.args

-- whether the arguments of a head but its key are new after these steps
abbrev pub fresh_of : List (RuleAtom ℕ) → List Step → ℕ → Option ℕ → Bool
fresh_of heads before j key = fresh_in (is_bound heads before) (head_in heads j) key

-- a head that no step names yet
pub record IsOpen (heads : List (RuleAtom ℕ)) (before : List Step) (j : ℕ) : Type 0 where
  pub from : 1 ≤ j
  pub to : j ≤ length heads
  pub unnamed : is_named before j ≡ false

-- the next step: an open head with its key and whether its other arguments are new, one that has a
-- key before those that have none, and then the least number
pub record IsNext (heads : List (RuleAtom ℕ)) (before : List Step) (step : Step) : Type 0 where
  pub open_head : IsOpen heads before step.head
  pub key : step.key ≡ key_of heads before step.head
  pub fresh : step.fresh ≡ fresh_of heads before step.head step.key
  pub keyed : (j : ℕ) → IsOpen heads before j → IsSome (key_of heads before j) → IsSome step.key
  pub least : (j : ℕ) → IsOpen heads before j → is_some (key_of heads before j) ≡ is_some step.key →
      step.head ≤ j

-- each step is the next after those before it
abbrev pub EachNext : List (RuleAtom ℕ) → List Step → List Step → Type 0
EachNext heads before [] = Unit {0}
EachNext heads before (s ∷ steps) = IsNext heads before s × EachNext heads (before ++ s ∷ []) steps

-- the first step of a head's plan
abbrev pub first_step : List (RuleAtom ℕ) → ℕ → Step
first_step heads h = record { head = h; key = None; fresh = fresh_of heads [] h None }

-- the plan of a head: that head without a key, then each time the next, until no head is open
pub record IsPlan (heads : List (RuleAtom ℕ)) (h : ℕ) (order : List Step) : Type 0 where
  pub rest : List Step
  pub first : order ≡ first_step heads h ∷ rest
  pub next : EachNext heads (first_step heads h ∷ []) rest
  pub all : (j : ℕ) → IsOpen heads order j → ⊥
