-- What an item says as it is written: names and variables are bytes still, and numbers are digits.
use Rattle.std.specs.Prelude.{ℕ, Bool, true, false, List, Option}
use Rattle.chr_rule.specs.declared.expression.Operator.{Operator}
use Rattle.chr_rule.specs.declared.expression.Relation.{Relation}
use Rattle.chr_lex.specs.Tokens.{Word, Name}

-- an expression, with its parentheses
pub data ParsedExpression : Type 0 where
  Number : Bool → List ℕ → ParsedExpression
  Variable : List ℕ → ParsedExpression
  Group : ParsedExpression → ParsedExpression
  Operation : Operator → ParsedExpression → ParsedExpression → ParsedExpression

-- a word of a term, and in how many parentheses of the term it stands
pub record TermNode : Type 0 where
  pub depth : ℕ
  pub word : Word

-- A term: its words in text order, a functor before its arguments. The arguments of a functor are
-- the next nodes one deeper, up to the next node that isn't deeper.
abbrev pub ParsedTerm : Type 0
ParsedTerm = List TermNode

-- only a name can be a functor
abbrev pub is_name : Word → Bool
is_name (Name name) = true
is_name _ = false

-- an atom: its name and its terms
pub record ParsedAtom : Type 0 where
  pub name : List ℕ
  pub args : List ParsedTerm

-- a member of a guard: `true`, a comparison of numbers, `==` or `\==`
pub data GuardMember : Type 0 where
  Always : GuardMember
  Compared : Relation → ParsedExpression → ParsedExpression → GuardMember
  Same : ParsedTerm → ParsedTerm → GuardMember
  Differ : ParsedTerm → ParsedTerm → GuardMember

-- a member of a body: `true`, a variable `is` an expression, or an atom
pub data BodyMember : Type 0 where
  Nothing : BodyMember
  Is : List ℕ → ParsedExpression → BodyMember
  Add : ParsedAtom → BodyMember

-- a rule: its name, its heads, its guard and its body. A propagation rule is one that removes
-- nothing.
pub record ParsedRule : Type 0 where
  pub rule_name : Option (List ℕ)
  pub kept : List ParsedAtom
  pub removed : List ParsedAtom
  pub guard : List GuardMember
  pub body : List BodyMember

-- a name with how many arguments it takes
pub record Declared : Type 0 where
  pub name : List ℕ
  pub digits : List ℕ

-- an item of a program: `:- use_module(library(chr))`, a declaration, or a rule
pub data Statement : Type 0 where
  Import : Statement
  Declaration : List Declared → Statement
  Rule : ParsedRule → Statement
