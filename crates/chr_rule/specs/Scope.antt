-- Which rules are in scope: each variable has a value where it is used, and the limits are kept.
use Rattle.std.specs.Prelude.{◌≡◌, ℕ, suc, ◌+◌, Bool, true, ◌&&◌, ◌==◌, ◌<◌, ◌≤◌, nat_lt, if◌then◌else◌, List, [], ◌∷◌, ◌++◌, length, Option, Some, None}
use Rattle.std.specs.List.{list_all}
use Rattle.chr_value.specs.Bounds.{most_comparisons, most_heads, most_items, most_variables}
use Rattle.chr_rule.specs.Rules.{Term, Var, Given, Open, Terms, End, And, RuleAtom, Expression, Number, Variable, Operation, Comparison, Compared, Same, Differ, BodyItem, Is, Add, Simpagation}
use Rattle.chr_rule.specs.Terms.{HasTerms}

abbrev pub known_then : {A : Type 0} → Option ℕ → (ℕ → Option A) → Option A
known_then (Some n) f = f n
known_then None f = None

-- The variables below n are known; a new variable takes the number n. How many are known after a
-- variable, or nothing where it comes out of turn.
abbrev pub known_after_variable : ℕ → ℕ → Option ℕ
known_after_variable n x = if nat_lt x n then Some n else (if x == n then Some (suc n) else None)

-- the same after a term, from left to right
abbrev mutual
  pub known_after_term : {N : Type 0} → ℕ → Term N → Option ℕ
  known_after_term n (Var x) = known_after_variable n x
  known_after_term n (Given v) = Some n
  known_after_term n (Open s ts) = known_after_terms n ts

  pub known_after_terms : {N : Type 0} → ℕ → Terms N → Option ℕ
  known_after_terms n End = Some n
  known_after_terms n (And t ts) = known_then (known_after_term n t) (λ m. known_after_terms m ts)

-- after the arguments of a constraint, and after heads
abbrev pub known_after_args : {N : Type 0} → ℕ → List (Term N) → Option ℕ
known_after_args n [] = Some n
known_after_args n (t ∷ ts) = known_then (known_after_term n t) (λ m. known_after_args m ts)

abbrev pub known_after_heads : {N : Type 0} → ℕ → List (RuleAtom N) → Option ℕ
known_after_heads n [] = Some n
known_after_heads n (h ∷ hs) = known_then (known_after_args n h.args) (λ m. known_after_heads m hs)

-- each variable is known
abbrev mutual
  pub argument_known : {N : Type 0} → ℕ → Term N → Bool
  argument_known n (Var x) = nat_lt x n
  argument_known n (Given v) = true
  argument_known n (Open s ts) = arguments_known n ts

  pub arguments_known : {N : Type 0} → ℕ → Terms N → Bool
  arguments_known n End = true
  arguments_known n (And t ts) = argument_known n t && arguments_known n ts

abbrev pub expression_known : ℕ → Expression → Bool
expression_known n (Number z) = true
expression_known n (Variable x) = nat_lt x n
expression_known n (Operation o a b) = expression_known n a && expression_known n b

abbrev pub test_known : {N : Type 0} → ℕ → Comparison N → Bool
test_known n (Compared r a b) = expression_known n a && expression_known n b
test_known n (Same s t) = argument_known n s && argument_known n t
test_known n (Differ s t) = argument_known n s && argument_known n t

-- an `is` gives a value to the next variable, for the members after it
abbrev pub known_after_body : {N : Type 0} → ℕ → List (BodyItem N) → Option ℕ
known_after_body n [] = Some n
known_after_body n (Is x e ∷ ms) =
    if (x == n) && expression_known n e then known_after_body (suc n) ms else None
known_after_body n (Add s ∷ ms) =
    if list_all (argument_known n) s.args then known_after_body n ms else None

-- how many variables a rule of these parts has, or nothing where one is used that has no value by
-- then
abbrev pub variable_count : {N : Type 0} → List (RuleAtom N) → List (Comparison N) →
    List (BodyItem N) → Option ℕ
variable_count heads guard body =
    known_then (known_after_heads 0 heads)
    (λ n. if list_all (test_known n) guard then known_after_body n body else None)

-- Within the limits: at most 24 variables, 6 heads of which one is removed, 16 comparisons and 16
-- members of the body. How deep an expression nests is a limit of the text alone.
pub record IsWithinLimits {N : Type 0} (rule : Simpagation N) : Type 0 where
  pub variables : rule.variables ≤ most_variables
  pub removed : 0 < length rule.removed
  pub heads : length rule.kept + length rule.removed ≤ most_heads
  pub guard : length rule.guard ≤ most_comparisons
  pub body : length rule.body ≤ most_items

-- a rule that a program may have
pub record IsRule {N : Type 0} (rule : Simpagation N) : Type 0 where
  pub scoped : variable_count (rule.kept ++ rule.removed) rule.guard rule.body ≡ Some rule.variables
  pub limits : IsWithinLimits rule
  pub terms : HasTerms rule
