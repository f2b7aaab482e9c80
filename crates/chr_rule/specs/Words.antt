-- Rules as lists of words, in Polish notation: what a part begins with tells how many parts it has.
use Rattle.std.specs.Prelude.{◌≡◌, ℕ, suc, ℤ, pos, negsuc, List, [], ◌∷◌, ◌++◌, map, length, Option, IfSome}
use Rattle.std.specs.List.{flat_map}
use Rattle.chr_value.specs.Atoms.{Int, Sym, Comp}
use Rattle.chr_rule.specs.declared.expression.Relation.{Relation}
use Rattle.chr_rule.specs.declared.expression.Relation.TheVariants as relations
use Rattle.chr_rule.specs.Code.{number_of}
use Rattle.chr_rule.specs.Rules.{Term, Var, Given, Open, RuleAtom, Expression, Number, Variable, Operation, Comparison, Compared, Same, Differ, BodyItem, Is, Add, Simpagation}

-- a number, or a term with a functor, which no number stands for
pub data RuleWord : Type 0 where
  Plain : ℕ → RuleWord
  Compound : Term ℕ → RuleWord

abbrev pub words : List ℕ → List RuleWord
words ns = map Plain ns

-- the kinds of terms and expressions
abbrev pub variable_kind : ℕ
variable_kind = 0

abbrev pub symbol_kind : ℕ
symbol_kind = 1

abbrev pub natural_kind : ℕ
natural_kind = 2

abbrev pub negative_kind : ℕ
negative_kind = 3

abbrev pub operation_kind : ℕ
operation_kind = 4

-- of comparisons
abbrev pub compared_kind : ℕ
compared_kind = 5

abbrev pub same_kind : ℕ
same_kind = 6

abbrev pub differ_kind : ℕ
differ_kind = 7

-- of members of a body
abbrev pub is_kind : ℕ
is_kind = 8

abbrev pub add_kind : ℕ
add_kind = 9

-- an integer by its sign and its absolute value
abbrev pub integer_words : ℤ → List RuleWord
integer_words (pos n) = words (natural_kind ∷ n ∷ [])
integer_words (negsuc n) = words (negative_kind ∷ suc n ∷ [])

abbrev pub term_words : Term ℕ → List RuleWord
term_words (Var x) = words (variable_kind ∷ x ∷ [])
term_words (Given (Int n)) = integer_words n
term_words (Given (Sym s)) = words (symbol_kind ∷ s ∷ [])
term_words (Given (Comp s vs)) = Compound (Given (Comp s vs)) ∷ []
term_words (Open s ts) = Compound (Open s ts) ∷ []

abbrev pub atom_words : RuleAtom ℕ → List RuleWord
atom_words p = words (p.name ∷ length p.args ∷ []) ++ flat_map term_words p.args

abbrev pub expression_words : Expression → List RuleWord
expression_words (Number n) = integer_words n
expression_words (Variable x) = words (variable_kind ∷ x ∷ [])
expression_words (Operation o a b) =
    words (operation_kind ∷ number_of o ∷ []) ++ (expression_words a ++ expression_words b)

abbrev pub relation_number : Relation → ℕ
relation_number relations.Less = 0
relation_number relations.LessEqual = 1
relation_number relations.Greater = 2
relation_number relations.GreaterEqual = 3
relation_number relations.Equal = 4
relation_number relations.Unequal = 5

abbrev pub test_words : Comparison ℕ → List RuleWord
test_words (Compared r a b) =
    words (compared_kind ∷ relation_number r ∷ []) ++ (expression_words a ++ expression_words b)
test_words (Same s t) = words (same_kind ∷ []) ++ (term_words s ++ term_words t)
test_words (Differ s t) = words (differ_kind ∷ []) ++ (term_words s ++ term_words t)

abbrev pub member_words : BodyItem ℕ → List RuleWord
member_words (Is x e) = words (is_kind ∷ x ∷ []) ++ expression_words e
member_words (Add p) = words (add_kind ∷ []) ++ atom_words p

-- how many variables, kept heads, removed heads, comparisons and members of the body there are
abbrev pub sizes : Simpagation ℕ → List ℕ
sizes rule =
    rule.variables ∷ length rule.kept ∷ length rule.removed ∷ length rule.guard ∷ length rule.body ∷
    []

abbrev pub rule_words : Simpagation ℕ → List RuleWord
rule_words rule =
    words (sizes rule)
    ++ (flat_map atom_words rule.kept
    ++ (flat_map atom_words rule.removed
    ++ (flat_map test_words rule.guard
    ++ flat_map member_words rule.body)))

-- these are the words of the rule, so no term of it has a functor
abbrev pub IsWritten : Simpagation ℕ → List ℕ → Type 0
IsWritten rule written = words written ≡ rule_words rule

-- words stand after the others, unless the result is None
abbrev pub Puts : Option (Unit {0}) → List ℕ → List ℕ → List RuleWord → Type 0
Puts result old new more = IfSome result (λ _. words new ≡ words old ++ more)
