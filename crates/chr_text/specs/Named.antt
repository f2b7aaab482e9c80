-- Whether a table has all names of a program.
use Rattle.std.specs.Prelude.{ℕ, ◌<◌, List, length}
use Rattle.std.specs.List.{AllByRecursion}
use Rattle.chr_value.specs.Atoms.{TermIsNamed}
use Rattle.chr_rule.specs.Rules.{Term, Var, Given, Open, Terms, End, And, RuleAtom, Comparison, Compared, Same, Differ, BodyItem, Is, Add, Simpagation}

-- a table of n names has all names of an argument
abbrev mutual
  pub ArgumentIsNamed : ℕ → Term ℕ → Type 0
  ArgumentIsNamed n (Var x) = Unit {0}
  ArgumentIsNamed n (Given value) = TermIsNamed n value
  ArgumentIsNamed n (Open s ts) = (s < n) × ArgumentsAreNamed n ts

  pub ArgumentsAreNamed : ℕ → Terms ℕ → Type 0
  ArgumentsAreNamed n End = Unit {0}
  ArgumentsAreNamed n (And t ts) = ArgumentIsNamed n t × ArgumentsAreNamed n ts

-- the name of a constraint of a rule, and those of its arguments
pub record RuleAtomIsNamed (n : ℕ) (p : RuleAtom ℕ) : Type 0 where
  pub name : p.name < n
  pub args : AllByRecursion (ArgumentIsNamed n) p.args

-- the names of a comparison, and of a member of a body
abbrev pub ComparisonIsNamed : ℕ → Comparison ℕ → Type 0
ComparisonIsNamed n (Compared relation a b) = Unit {0}
ComparisonIsNamed n (Same s t) = ArgumentIsNamed n s × ArgumentIsNamed n t
ComparisonIsNamed n (Differ s t) = ArgumentIsNamed n s × ArgumentIsNamed n t

abbrev pub BodyItemIsNamed : ℕ → BodyItem ℕ → Type 0
BodyItemIsNamed n (Is x e) = Unit {0}
BodyItemIsNamed n (Add p) = RuleAtomIsNamed n p

-- all names of a rule
pub record RuleIsNamed (n : ℕ) (rule : Simpagation ℕ) : Type 0 where
  pub kept : AllByRecursion (RuleAtomIsNamed n) rule.kept
  pub removed : AllByRecursion (RuleAtomIsNamed n) rule.removed
  pub guard : AllByRecursion (ComparisonIsNamed n) rule.guard
  pub body : AllByRecursion (BodyItemIsNamed n) rule.body

-- all names of a program's rules
abbrev pub RulesAreNamed : List (List ℕ) → List (Simpagation ℕ) → Type 0
RulesAreNamed names rules = AllByRecursion (RuleIsNamed (length names)) rules
