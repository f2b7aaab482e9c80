-- How what an item says is written: the grammar by its forms.
use Rattle.std.specs.Prelude.{◌≡◌, ℕ, ◌+◌, ◌-◌, zero, suc, ◌<◌, ◌≤◌, nat_lt, true, false, if◌then◌else◌, List, [], ◌∷◌, ◌++◌, length, max, Option, Some, None, codes}
use Rattle.std.specs.List.{AllByRecursion}
use Rattle.chr_value.specs.Spelling.{is_reserved}
use Rattle.chr_lex.specs.declared.mark.Mark.TheVariants as mark
use Rattle.chr_lex.specs.declared.mark.Mark.TheVariants.{Open, Close, Comma}
use Rattle.chr_lex.specs.Tokens.{Lexeme, OfWord, OfMark}
use Rattle.chr_lex.specs.Tokens as word
use Rattle.chr_rule.specs.declared.expression.Operator.{Operator}
use Rattle.chr_rule.specs.declared.expression.Operator.TheVariants as operator
use Rattle.chr_rule.specs.declared.expression.Relation.{Relation}
use Rattle.chr_rule.specs.declared.expression.Relation.TheVariants as relation
use Rattle.chr_value.specs.Bounds.{most_expression_depth}
use Rattle.chr_grammar.specs.Parsed.{ParsedExpression, Number, Variable, Group, Operation, TermNode, ParsedTerm, is_name, ParsedAtom, GuardMember, Always, Compared, Same, Differ, BodyMember, Nothing, Is, Add, ParsedRule, Declared, Statement, Import, Declaration, Rule}

-- ---- lists by commas

-- the members one after the other, by commas
abbrev pub by_commas : {A : Type 0} → (A → List Lexeme) → List A → List Lexeme
by_commas spelled [] = []
by_commas spelled (x ∷ []) = spelled x
by_commas spelled (x ∷ y ∷ xs) = spelled x ++ OfMark Comma ∷ by_commas spelled (y ∷ xs)

-- at least one member, each of them well formed, by commas
pub record AreByCommas {A : Type 0} (Stands : A → Type 0) (spelled : A → List Lexeme)
    (ts : List Lexeme) (xs : List A) : Type 0 where
  pub some : 0 < length xs
  pub each : AllByRecursion Stands xs
  pub written : ts ≡ by_commas spelled xs

-- ---- terms

-- so many closing parentheses
abbrev pub closings : ℕ → List Lexeme
closings zero = []
closings (suc n) = OfMark Close ∷ closings n

-- what stands between a node and the next one, by their depths
abbrev pub between : ℕ → ℕ → List Lexeme
between d e = if nat_lt d e then OfMark Open ∷ [] else closings (d - e) ++ OfMark Comma ∷ []

-- the nodes behind one of this depth, and the parentheses that are open at the end
abbrev pub nodes_spelled : ℕ → List TermNode → List Lexeme
nodes_spelled d [] = closings d
nodes_spelled d (n ∷ ns) = between d n.depth ++ OfWord n.word ∷ nodes_spelled n.depth ns

abbrev pub term_spelled : ParsedTerm → List Lexeme
term_spelled [] = []
term_spelled (n ∷ ns) = OfWord n.word ∷ nodes_spelled n.depth ns

-- A node behind another is an argument, at most one deeper, and only behind a name is it deeper.
pub record MayFollow (n m : TermNode) : Type 0 where
  pub inside : 0 < m.depth
  pub stepwise : m.depth ≤ suc n.depth
  pub functor : n.depth < m.depth → is_name n.word ≡ true

abbrev pub AreNodes : TermNode → List TermNode → Type 0
AreNodes n [] = Unit {0}
AreNodes n (m ∷ ns) = MayFollow n m × AreNodes m ns

abbrev pub IsParsedTerm : ParsedTerm → Type 0
IsParsedTerm [] = ⊥
IsParsedTerm (n ∷ ns) = (n.depth ≡ 0) × AreNodes n ns

-- nothing, or no opening parenthesis
abbrev pub EndsTerm : List Lexeme → Type 0
EndsTerm [] = Unit {0}
EndsTerm (s ∷ ts) = s ≡ OfMark Open → ⊥

-- ---- atoms

-- further terms by commas, and the closing parenthesis
abbrev pub further : List ParsedTerm → List Lexeme
further [] = OfMark Close ∷ []
further (t ∷ ts) = OfMark Comma ∷ (term_spelled t ++ further ts)

abbrev pub arguments : List ParsedTerm → List Lexeme
arguments [] = []
arguments (t ∷ ts) = OfMark Open ∷ (term_spelled t ++ further ts)

abbrev pub phrase_spelled : ParsedAtom → List Lexeme
phrase_spelled p = OfWord (word.Name p.name) ∷ arguments p.args

-- true, fail and false are no atoms without arguments
abbrev pub IsUnreserved : List ℕ → List ParsedTerm → Type 0
IsUnreserved name [] = is_reserved name ≡ false
IsUnreserved name (t ∷ ts) = Unit {0}

pub record IsParsedAtom (p : ParsedAtom) : Type 0 where
  pub unreserved : IsUnreserved p.name p.args
  pub terms : AllByRecursion IsParsedTerm p.args

-- the tokens are these atoms by commas
abbrev pub AreParsedAtoms : List Lexeme → List ParsedAtom → Type 0
AreParsedAtoms = AreByCommas IsParsedAtom phrase_spelled

-- ---- expressions

abbrev pub operator_sign : Operator → Lexeme
operator_sign operator.Add = OfMark mark.Plus
operator_sign operator.Sub = OfMark mark.Minus
operator_sign operator.Mul = OfMark mark.Star
operator_sign operator.Quot = OfMark mark.Quotient
operator_sign operator.Rem = OfMark mark.Rem
operator_sign operator.Mod = OfMark mark.Mod

abbrev pub formula_spelled : ParsedExpression → List Lexeme
formula_spelled (Number negative digits) = OfWord (word.Number negative digits) ∷ []
formula_spelled (Variable x) = OfWord (word.Variable x) ∷ []
formula_spelled (Group f) = OfMark Open ∷ (formula_spelled f ++ OfMark Close ∷ [])
formula_spelled (Operation o f g) = formula_spelled f ++ operator_sign o ∷ formula_spelled g

-- how tightly an operator binds
abbrev pub binds : Operator → ℕ
binds operator.Add = 1
binds operator.Sub = 1
binds _ = 2

-- how tightly an expression holds together: an operation as its operator binds, all else more
-- tightly
abbrev pub holds : ParsedExpression → ℕ
holds (Operation o f g) = binds o
holds _ = 3

-- Parentheses stand where they must: what is left of an operator holds together at least as tightly
-- as the operator binds, and what is right of it more tightly.
abbrev pub IsGrouped : ParsedExpression → Type 0
IsGrouped (Number negative digits) = Unit {0}
IsGrouped (Variable x) = Unit {0}
IsGrouped (Group f) = IsGrouped f
IsGrouped (Operation o f g) = (binds o ≤ holds f) × (binds o < holds g) × IsGrouped f × IsGrouped g

-- A number or a variable has depth 1. An operation is one deeper than its deeper side, and
-- parentheses add one.
abbrev pub depth : ParsedExpression → ℕ
depth (Number negative digits) = 1
depth (Variable x) = 1
depth (Group f) = suc (depth f)
depth (Operation o f g) = suc (max (depth f) (depth g))

abbrev pub IsExpression : ParsedExpression → Type 0
IsExpression f = IsGrouped f × (depth f ≤ most_expression_depth)

-- nothing, or no operator
abbrev pub EndsExpression : List Lexeme → Type 0
EndsExpression [] = Unit {0}
EndsExpression (s ∷ ts) = (o : Operator) → s ≡ operator_sign o → ⊥

-- ---- guards

abbrev pub relation_sign : Relation → Lexeme
relation_sign relation.Less = OfMark mark.Less
relation_sign relation.LessEqual = OfMark mark.AtMost
relation_sign relation.Greater = OfMark mark.Greater
relation_sign relation.GreaterEqual = OfMark mark.AtLeast
relation_sign relation.Equal = OfMark mark.SameValue
relation_sign relation.Unequal = OfMark mark.OtherValue

abbrev pub true_word : Lexeme
true_word = OfWord (word.Name (codes "true"))

abbrev pub test_spelled : GuardMember → List Lexeme
test_spelled Always = true_word ∷ []
test_spelled (Compared r f g) = formula_spelled f ++ relation_sign r ∷ formula_spelled g
test_spelled (Same t u) = term_spelled t ++ OfMark mark.Equals ∷ term_spelled u
test_spelled (Differ t u) = term_spelled t ++ OfMark mark.Differs ∷ term_spelled u

abbrev pub IsGuardMember : GuardMember → Type 0
IsGuardMember Always = Unit {0}
IsGuardMember (Compared r f g) = IsExpression f × IsExpression g
IsGuardMember (Same t u) = IsParsedTerm t × IsParsedTerm u
IsGuardMember (Differ t u) = IsParsedTerm t × IsParsedTerm u

-- the tokens are these members by commas
abbrev pub AreGuardMembers : List Lexeme → List GuardMember → Type 0
AreGuardMembers = AreByCommas IsGuardMember test_spelled

-- ---- bodies

abbrev pub member_spelled : BodyMember → List Lexeme
member_spelled Nothing = true_word ∷ []
member_spelled (Is x f) = OfWord (word.Variable x) ∷ OfMark mark.Is ∷ formula_spelled f
member_spelled (Add p) = phrase_spelled p

abbrev pub IsBodyMember : BodyMember → Type 0
IsBodyMember Nothing = Unit {0}
IsBodyMember (Is x f) = IsExpression f
IsBodyMember (Add p) = IsParsedAtom p

-- the tokens are these members by commas
abbrev pub AreBodyMembers : List Lexeme → List BodyMember → Type 0
AreBodyMembers = AreByCommas IsBodyMember member_spelled

-- ---- declarations

abbrev pub declared_spelled : Declared → List Lexeme
declared_spelled d =
    OfWord (word.Name d.name) ∷ OfMark mark.Slash ∷ OfWord (word.Number false d.digits) ∷ []

-- ---- rules

abbrev pub rule_name_spelled : Option (List ℕ) → List Lexeme
rule_name_spelled None = []
rule_name_spelled (Some name) = OfWord (word.Name name) ∷ OfMark mark.At ∷ []

-- those that are kept before those that are removed
abbrev pub heads_spelled : List ParsedAtom → List ParsedAtom → List Lexeme
heads_spelled [] removed = by_commas phrase_spelled removed
heads_spelled kept [] = by_commas phrase_spelled kept
heads_spelled kept removed =
    by_commas phrase_spelled kept ++ OfMark mark.Backslash ∷ by_commas phrase_spelled removed

-- `==>` where nothing is removed
abbrev pub arrow_sign : List ParsedAtom → Lexeme
arrow_sign [] = OfMark mark.Propagate
arrow_sign removed = OfMark mark.Simplify

abbrev pub consequence_spelled : List GuardMember → List BodyMember → List Lexeme
consequence_spelled [] body = by_commas member_spelled body
consequence_spelled guard body =
    by_commas test_spelled guard ++ OfMark mark.Bar ∷ by_commas member_spelled body

abbrev pub rule_spelled : ParsedRule → List Lexeme
rule_spelled r =
    rule_name_spelled r.rule_name ++
    (heads_spelled r.kept r.removed ++ arrow_sign r.removed ∷ consequence_spelled r.guard r.body)

pub record IsParsedRule (r : ParsedRule) : Type 0 where
  pub has_heads : 0 < length r.kept + length r.removed
  pub kept : AllByRecursion IsParsedAtom r.kept
  pub removed : AllByRecursion IsParsedAtom r.removed
  pub guard : AllByRecursion IsGuardMember r.guard
  pub has_body : 0 < length r.body
  pub body : AllByRecursion IsBodyMember r.body

-- ---- statements

abbrev pub a_name : List ℕ → Lexeme
a_name name = OfWord (word.Name name)

abbrev pub statement_spelled : Statement → List Lexeme
statement_spelled Import =
    OfMark mark.Declares ∷ a_name (codes "use_module") ∷ OfMark Open ∷ a_name (codes "library") ∷
    OfMark Open ∷ a_name (codes "chr") ∷ OfMark Close ∷ OfMark Close ∷ []
statement_spelled (Declaration ds) =
    OfMark mark.Declares ∷ a_name (codes "chr_constraint") ∷ by_commas declared_spelled ds
statement_spelled (Rule r) = rule_spelled r

abbrev pub IsStatement : Statement → Type 0
IsStatement Import = Unit {0}
IsStatement (Declaration ds) = 0 < length ds
IsStatement (Rule r) = IsParsedRule r

-- the tokens are this statement
abbrev pub AreStatement : List Lexeme → Statement → Type 0
AreStatement ts s = IsStatement s × (ts ≡ statement_spelled s)
