-- What a rule says, over the numbers of names or over their texts.
use Rattle.std.specs.Prelude.{ℕ, zero, suc, ℤ, List, [], ◌∷◌, ◌++◌, Option, None, slice_get}
use Rattle.chr_value.specs.Atoms.{Value}
use Rattle.chr_rule.specs.declared.expression.Operator.{Operator}
use Rattle.chr_rule.specs.declared.expression.Relation.{Relation}

-- a term: a variable, a value as it is written, or a functor with a variable in its arguments
mutual
  pub data Term (N : Type 0) : Type 0 where
    Var : ℕ → Term N
    Given : Value N → Term N
    Open : N → Terms N → Term N

  -- arguments of a functor, one after another
  pub data Terms (N : Type 0) : Type 0 where
    End : Terms N
    And : Term N → Terms N → Terms N

-- a list of terms as arguments
abbrev pub terms_of : {N : Type 0} → List (Term N) → Terms N
terms_of [] = End
terms_of (t ∷ ts) = And t (terms_of ts)

-- a constraint in a rule
pub record RuleAtom (N : Type 0) : Type 0 where
  pub name : N
  pub args : List (Term N)

pub data Expression : Type 0 where
  Number : ℤ → Expression
  Variable : ℕ → Expression
  Operation : Operator → Expression → Expression → Expression

-- a comparison of the guard: of two expressions by their numbers, or of two terms
pub data Comparison (N : Type 0) : Type 0 where
  Compared : Relation → Expression → Expression → Comparison N
  Same : Term N → Term N → Comparison N
  Differ : Term N → Term N → Comparison N

-- a member of the body: `x is e`, or a constraint
pub data BodyItem (N : Type 0) : Type 0 where
  Is : ℕ → Expression → BodyItem N
  Add : RuleAtom N → BodyItem N

-- a rule: how many variables it has, its kept and removed heads, its guard and its body
pub record Simpagation (N : Type 0) : Type 0 where
  pub variables : ℕ
  pub kept : List (RuleAtom N)
  pub removed : List (RuleAtom N)
  pub guard : List (Comparison N)
  pub body : List (BodyItem N)

-- the heads of a rule, kept ones first
abbrev pub heads_of : {N : Type 0} → Simpagation N → List (RuleAtom N)
heads_of rule = rule.kept ++ rule.removed

-- the head of a number, from 1
abbrev pub head_in : {N : Type 0} → List (RuleAtom N) → ℕ → Option (RuleAtom N)
head_in heads zero = None
head_in heads (suc k) = slice_get heads k

abbrev pub head_at : {N : Type 0} → Simpagation N → ℕ → Option (RuleAtom N)
head_at rule n = head_in (heads_of rule) n

-- the rule of these parts
abbrev pub of_parts : {N : Type 0} → ℕ → List (RuleAtom N) → List (RuleAtom N) →
    List (Comparison N) → List (BodyItem N) → Simpagation N
of_parts n kept removed guard body =
    record { variables = n; kept = kept; removed = removed; guard = guard; body = body }

-- the rule of a number, from 1
abbrev pub rule_at : {N : Type 0} → List (Simpagation N) → ℕ → Option (Simpagation N)
rule_at rules zero = None
rule_at rules (suc k) = slice_get rules k
