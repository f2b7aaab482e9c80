-- What may be numbered: names that a log can hold, and numbers of 64 bits with sign.
use Rattle.std.specs.Prelude.{◌≡◌, ℕ, ◌≤◌, true, false, List, length, is_none}
use Rattle.std.specs.List.{list_all, AllByRecursion}
use Rattle.chr_value.specs.Bounds.{most_arguments, most_variables}
use Rattle.chr_value.specs.Spelling.{is_name_byte, begins_lower, is_operator, IsName}
use Rattle.chr_lex.specs.Tokens.{Word, Name, Variable, Number}
use Rattle.chr_grammar.specs.Parsed as parsed
use Rattle.chr_grammar.specs.Parsed.{ParsedTerm, ParsedAtom, GuardMember, BodyMember, ParsedRule}
use Rattle.chr_grammar.specs.Spelling.{IsParsedTerm}
use Rattle.chr_rule.specs.Scope.{IsRule}
use Rattle.chr_limits.specs.Numbers.{whole_number}
use Rattle.chr_limits.specs.Words.{is_variable, term_has}
use Rattle.chr_limits.specs.Limits.{is_large_term}
use Rattle.chr_text.specs.Translation.{expression, after_body, rule}
use Rattle.chr_text.specs.Variables.{Seen, number_variable}

abbrev pub WordFits : Word → Type 0
WordFits (Name t) = IsName t
WordFits (Variable x) = Unit {0}
WordFits (Number negative ds) = is_none (whole_number negative ds) ≡ false

abbrev pub NodeFits : parsed.TermNode → Type 0
NodeFits n = WordFits n.word

-- a term within the limits, as the grammar has it
pub record TermFits (t : ParsedTerm) : Type 0 where
  pub words : AllByRecursion NodeFits t
  pub small : is_large_term t ≡ false
  pub nested : IsParsedTerm t

-- a term of a post, in which no variable stands
pub record ValueFits (t : ParsedTerm) : Type 0 where
  pub term : TermFits t
  pub given : term_has is_variable t ≡ false

-- an atom of a post
pub record PostFits (p : ParsedAtom) : Type 0 where
  pub name : IsName p.name
  pub args : AllByRecursion ValueFits p.args
  pub few : length p.args ≤ most_arguments

abbrev pub FormulaFits : parsed.ParsedExpression → Type 0
FormulaFits (parsed.Number negative ds) = is_none (whole_number negative ds) ≡ false
FormulaFits (parsed.Variable x) = Unit {0}
FormulaFits (parsed.Group e) = FormulaFits e
FormulaFits (parsed.Operation o a b) = FormulaFits a × FormulaFits b

-- the same with room for its variables after those seen before it
abbrev pub ExpressionFits : Seen → parsed.ParsedExpression → Type 0
ExpressionFits seen (parsed.Number negative ds) = is_none (whole_number negative ds) ≡ false
ExpressionFits seen (parsed.Variable x) = length (number_variable seen x).1 ≤ most_variables
ExpressionFits seen (parsed.Group e) = ExpressionFits seen e
ExpressionFits seen (parsed.Operation o a b) =
    ExpressionFits seen a × ExpressionFits (expression seen a).1 b

-- an atom of a rule
pub record ShapeFits (p : ParsedAtom) : Type 0 where
  pub name : IsName p.name
  pub args : AllByRecursion TermFits p.args
  pub few : length p.args ≤ most_arguments

abbrev pub TestFits : GuardMember → Type 0
TestFits parsed.Always = Unit {0}
TestFits (parsed.Compared r a b) = FormulaFits a × FormulaFits b
TestFits (parsed.Same s t) = TermFits s × TermFits t
TestFits (parsed.Differ s t) = TermFits s × TermFits t

abbrev pub MemberFits : BodyMember → Type 0
MemberFits parsed.Nothing = Unit {0}
MemberFits (parsed.Is x e) = FormulaFits e
MemberFits (parsed.Add p) = ShapeFits p

-- a rule, whose variables all have a value where they are used
pub record RuleFits (r : ParsedRule) : Type 0 where
  pub kept : AllByRecursion ShapeFits r.kept
  pub removed : AllByRecursion ShapeFits r.removed
  pub guard : AllByRecursion TestFits r.guard
  pub body : AllByRecursion MemberFits r.body
  pub room : length (after_body r) ≤ most_variables
  pub valid : IsRule (rule r)

-- ---- names as tokens have them, however long

-- a lower-case letter, then letters, digits and `_`; no operator
pub record NamePlain (t : List ℕ) : Type 0 where
  pub first : begins_lower t ≡ true
  pub bytes : list_all is_name_byte t ≡ true
  pub plain : is_operator t ≡ false

abbrev pub WordPlain : Word → Type 0
WordPlain (Name t) = NamePlain t
WordPlain (Variable x) = Unit {0}
WordPlain (Number negative ds) = Unit {0}

abbrev pub NodePlain : parsed.TermNode → Type 0
NodePlain n = WordPlain n.word

-- a term as the grammar has it
abbrev pub TermPlain : ParsedTerm → Type 0
TermPlain t = IsParsedTerm t × AllByRecursion NodePlain t

abbrev pub PhrasePlain : ParsedAtom → Type 0
PhrasePlain p = NamePlain p.name × AllByRecursion TermPlain p.args

-- each term of a comparison is such, and the atom of a member of a body
abbrev pub TestOf : (ParsedTerm → Type 0) → GuardMember → Type 0
TestOf Terms parsed.Always = Unit {0}
TestOf Terms (parsed.Compared r a b) = Unit {0}
TestOf Terms (parsed.Same s t) = Terms s × Terms t
TestOf Terms (parsed.Differ s t) = Terms s × Terms t

abbrev pub MemberOf : (ParsedAtom → Type 0) → BodyMember → Type 0
MemberOf Atoms parsed.Nothing = Unit {0}
MemberOf Atoms (parsed.Is x e) = Unit {0}
MemberOf Atoms (parsed.Add p) = Atoms p

-- each term that a rule compares is such, and each atom
pub record RuleOf (Terms : ParsedTerm → Type 0) (Atoms : ParsedAtom → Type 0) (r : ParsedRule)
    : Type 0 where
  pub kept : AllByRecursion Atoms r.kept
  pub removed : AllByRecursion Atoms r.removed
  pub guard : AllByRecursion (TestOf Terms) r.guard
  pub body : AllByRecursion (MemberOf Atoms) r.body

abbrev pub TestPlain : GuardMember → Type 0
TestPlain t = TestOf TermPlain t

abbrev pub MemberPlain : BodyMember → Type 0
MemberPlain m = MemberOf PhrasePlain m

-- the names of a rule, its own name aside
abbrev pub RulePlain : ParsedRule → Type 0
RulePlain r = RuleOf TermPlain PhrasePlain r

abbrev pub StatementPlain : parsed.Statement → Type 0
StatementPlain parsed.Import = Unit {0}
StatementPlain (parsed.Declaration ds) = Unit {0}
StatementPlain (parsed.Rule r) = RulePlain r
