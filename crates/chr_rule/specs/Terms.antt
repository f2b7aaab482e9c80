-- Which terms a rule may have.
use Rattle.std.specs.Prelude.{◌≡◌, ℕ, suc, ◌+◌, ◌≤◌, max, Bool, true, false, ◌||◌, List, Option}
use Rattle.std.specs.List.{AllByRecursion}
use Rattle.chr_value.specs.Atoms.{Int, Sym, Comp}
use Rattle.chr_value.specs.Bounds.{most_arguments, most_depth, most_size}
use Rattle.chr_value.specs.Limits.{depth, size, left_of}
use Rattle.chr_rule.specs.Rules.{Term, Var, Given, Open, Terms, End, And, terms_of, RuleAtom, Comparison, Compared, Same, Differ, BodyItem, Is, Add, Simpagation}

-- a variable stands in the term
abbrev mutual
  pub has_variable : {N : Type 0} → Term N → Bool
  has_variable (Var x) = true
  has_variable (Given v) = false
  has_variable (Open s ts) = have_variable ts

  pub have_variable : {N : Type 0} → Terms N → Bool
  have_variable End = false
  have_variable (And t ts) = has_variable t || have_variable ts

-- how many arguments there are
abbrev pub terms_count : {N : Type 0} → Terms N → ℕ
terms_count End = 0
terms_count (And t ts) = suc (terms_count ts)

-- a functor has a variable in its arguments, of which there are at most eight: a term without
-- variables is a value as it is written
abbrev mutual
  pub IsCanonical : {N : Type 0} → Term N → Type 0
  IsCanonical (Var x) = Unit {0}
  IsCanonical (Given v) = Unit {0}
  IsCanonical (Open s ts) =
      (terms_count ts ≤ most_arguments) × (have_variable ts ≡ true) × AreCanonical ts

  pub AreCanonical : {N : Type 0} → Terms N → Type 0
  AreCanonical End = Unit {0}
  AreCanonical (And t ts) = IsCanonical t × AreCanonical ts

-- a variable is 1 deep, as a number is
abbrev mutual
  pub term_depth : {N : Type 0} → Term N → ℕ
  term_depth (Var x) = 1
  term_depth (Given v) = depth v
  term_depth (Open s ts) = suc (terms_depth ts)

  pub terms_depth : {N : Type 0} → Terms N → ℕ
  terms_depth End = 0
  terms_depth (And t ts) = max (term_depth t) (terms_depth ts)

-- a variable has the size 1, as a number has
abbrev mutual
  pub term_size : {N : Type 0} → Term N → ℕ
  term_size (Var x) = 1
  term_size (Given v) = size v
  term_size (Open s ts) = suc (terms_size ts)

  pub terms_size : {N : Type 0} → Terms N → ℕ
  terms_size End = 0
  terms_size (And t ts) = term_size t + terms_size ts

-- a term that a rule may have: canonical, and neither too deep nor too large
pub record IsTerm {N : Type 0} (t : Term N) : Type 0 where
  pub canonical : IsCanonical t
  pub depth : term_depth t ≤ most_depth
  pub size : term_size t ≤ most_size

-- each argument of a constraint is such a term
abbrev pub IsRuleAtom : {N : Type 0} → RuleAtom N → Type 0
IsRuleAtom a = AllByRecursion IsTerm a.args

-- each term of a comparison, and of a member of the body
abbrev pub IsComparison : {N : Type 0} → Comparison N → Type 0
IsComparison (Compared r a b) = Unit {0}
IsComparison (Same s t) = IsTerm s × IsTerm t
IsComparison (Differ s t) = IsTerm s × IsTerm t

abbrev pub IsBodyItem : {N : Type 0} → BodyItem N → Type 0
IsBodyItem (Is x e) = Unit {0}
IsBodyItem (Add a) = IsRuleAtom a

-- each term of a rule is one that it may have
pub record HasTerms {N : Type 0} (rule : Simpagation N) : Type 0 where
  pub kept : AllByRecursion IsRuleAtom rule.kept
  pub removed : AllByRecursion IsRuleAtom rule.removed
  pub guard : AllByRecursion IsComparison rule.guard
  pub body : AllByRecursion IsBodyItem rule.body

-- the room that is left behind a term, and behind several
abbrev pub left_after_term : {N : Type 0} → ℕ → ℕ → Term N → Option ℕ
left_after_term d room t = left_of d room (term_depth t) (term_size t)

abbrev pub left_after_terms : {N : Type 0} → ℕ → ℕ → List (Term N) → Option ℕ
left_after_terms d room ts = left_of d room (terms_depth (terms_of ts)) (terms_size (terms_of ts))

-- not a value as it is written
abbrev pub is_open : {N : Type 0} → Term N → Bool
is_open (Var x) = true
is_open (Given v) = false
is_open (Open s ts) = true

-- a variable, a number or a symbol
abbrev pub IsPlain : {N : Type 0} → Term N → Type 0
IsPlain (Var x) = Unit {0}
IsPlain (Given (Int z)) = Unit {0}
IsPlain (Given (Sym s)) = Unit {0}
IsPlain (Given (Comp s vs)) = ⊥
IsPlain (Open s ts) = ⊥

-- each argument of a constraint of the body is such a term
abbrev pub HasPlainArguments : {N : Type 0} → BodyItem N → Type 0
HasPlainArguments (Is x e) = Unit {0}
HasPlainArguments (Add a) = AllByRecursion IsPlain a.args

abbrev pub HasPlainBody : {N : Type 0} → Simpagation N → Type 0
HasPlainBody rule = AllByRecursion HasPlainArguments rule.body
