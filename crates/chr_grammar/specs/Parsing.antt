-- What tokens say, read from the left: posts, declarations and rules. Each step takes what it reads
-- from the front and gives it with the tokens after it.
use Rattle.std.specs.Prelude.{◌≡◌, ℕ, zero, suc, ◌-◌, Bool, true, false, List, [], ◌∷◌, length, drop, ◌&&◌, if◌then◌else◌, Option, Some, None, Result, Ok, Err, codes}
use Rattle.std.specs.Str.{bytes_eq}
use Rattle.chr_value.specs.Spelling.{is_reserved}
use Rattle.chr_lex.specs.declared.fault.Kind.{Kind}
use Rattle.chr_lex.specs.declared.fault.Kind.TheVariants.{Syntax}
use Rattle.chr_lex.specs.declared.mark.Mark.{Mark}
use Rattle.chr_lex.specs.declared.mark.Mark.TheVariants as mark
use Rattle.chr_lex.specs.Marks.{spelling}
use Rattle.chr_lex.specs.Reading.{◌>>=◌}
use Rattle.chr_lex.specs.Tokens.{Word, Name, Variable, Number, Lexeme, OfWord, OfMark}
use Rattle.chr_rule.specs.declared.expression.Operator.{Operator}
use Rattle.chr_rule.specs.declared.expression.Operator.TheVariants.{Add, Sub, Mul, Quot, Rem, Mod}
use Rattle.chr_rule.specs.declared.expression.Relation.{Relation}
use Rattle.chr_rule.specs.declared.expression.Relation.TheVariants.{Less, LessEqual, Greater, GreaterEqual, Equal, Unequal}
use Rattle.chr_value.specs.Bounds.{most_expression_depth}
use Rattle.chr_grammar.specs.declared.expression.Level.{Level}
use Rattle.chr_grammar.specs.declared.expression.Level.TheVariants as level
use Rattle.chr_grammar.specs.declared.sign.Divider.{Divider}
use Rattle.chr_grammar.specs.declared.sign.Divider.TheVariants as divider
use Rattle.chr_grammar.specs.Parsed as parsed
use Rattle.chr_grammar.specs.Parsed.{ParsedExpression, TermNode, ParsedTerm, is_name, ParsedAtom, GuardMember, BodyMember, ParsedRule, Declared, Statement}

-- what is read at the front, and the tokens after it
abbrev pub Front : Type 0 → Type 0
Front A = Result (A × List Lexeme) Kind

-- ---- signs

-- whether the token is this mark
abbrev pub is_mark : Mark → Lexeme → Bool
is_mark m (OfMark n) = bytes_eq (spelling n) (spelling m)
is_mark m _ = false

abbrev pub is_arrow : Lexeme → Bool
is_arrow (OfMark mark.Simplify) = true
is_arrow (OfMark mark.Propagate) = true
is_arrow _ = false

abbrev pub named : Lexeme → Option (List ℕ)
named (OfWord (Name name)) = Some name
named _ = None

abbrev pub is_named : List ℕ → Option (List ℕ) → Bool
is_named w None = false
is_named w (Some name) = bytes_eq name w

abbrev pub is_true : Lexeme → Bool
is_true s = is_named (codes "true") (named s)

-- what is done with a value, or without one
abbrev pub either : {A B : Type 0} → Option A → B → (A → B) → B
either None without with = without
either (Some x) without with = with x

-- ---- lists by commas

-- no comma stands in front
abbrev pub NoComma : List Lexeme → Type 0
NoComma [] = Unit {0}
NoComma (s ∷ ts) = is_mark mark.Comma s ≡ false

-- a member, and what follows it: a comma and the others, or something else
abbrev pub behind : {A : Type 0} → A → List Lexeme → Front (List A) → Front (List A)
behind x [] others = Ok (x ∷ [], [])
behind x (s ∷ ts) others =
    if is_mark mark.Comma s then (others >>= λ y. Ok (x ∷ y.0, y.1)) else Ok (x ∷ [], s ∷ ts)

-- no more members than so many
abbrev pub members_at : {A : Type 0} → (List Lexeme → Front A) → ℕ → List Lexeme → Front (List A)
members_at member zero ts = Err Syntax
members_at member (suc n) ts = member ts >>= λ x. behind x.0 x.1 (members_at member n (drop 1 x.1))

-- Each member has a token of its own, so there are no more members than tokens.
abbrev pub several_at : {A : Type 0} → (List Lexeme → Front A) → List Lexeme → Front (List A)
several_at member ts = members_at member (length ts) ts

-- with nothing behind them
abbrev pub alone : {A : Type 0} → List A → List Lexeme → Result (List A) Kind
alone xs [] = Ok xs
alone xs (s ∷ ts) = Err Syntax

abbrev pub each_by_commas : {A : Type 0} → (List Lexeme → Front A) → List Lexeme →
    Result (List A) Kind
each_by_commas member ts = several_at member ts >>= λ x. alone x.0 x.1

-- with a closing parenthesis behind them
abbrev pub enclosed : {A : Type 0} → A → List Lexeme → Front A
enclosed x [] = Err Syntax
enclosed x (s ∷ ts) = if is_mark mark.Close s then Ok (x, ts) else Err Syntax

-- ---- terms

-- Behind an argument in so many parentheses: in how many the next argument stands, and the tokens
-- from it on. In none the term has ended.
abbrev pub next_at : ℕ → List Lexeme → Front ℕ
next_at zero ts = Ok (zero, ts)
next_at (suc d) [] = Err Syntax
next_at (suc d) (s ∷ ts) =
    if is_mark mark.Comma s then Ok (suc d, ts)
    else (if is_mark mark.Close s then next_at d ts else Err Syntax)

-- a name before an opening parenthesis
abbrev pub is_functor : Word → List Lexeme → Bool
is_functor w [] = false
is_functor w (s ∷ ts) = is_name w && is_mark mark.Open s

-- the same behind a word, which may be a functor and stand before its arguments
abbrev pub behind_word_at : Word → ℕ → List Lexeme → Front ℕ
behind_word_at w d ts = if is_functor w ts then Ok (suc d, drop 1 ts) else next_at d ts

-- a node, and the others where the term has not ended
abbrev pub with_node : TermNode → ℕ → List Lexeme → Front ParsedTerm → Front ParsedTerm
with_node n zero ts others = Ok (n ∷ [], ts)
with_node n (suc d) ts others = others >>= λ x. Ok (n ∷ x.0, x.1)

-- an argument in so many parentheses, and what follows it in the term: no more nodes than so many
abbrev pub nodes_at : ℕ → ℕ → List Lexeme → Front ParsedTerm
nodes_at zero d ts = Err Syntax
nodes_at (suc n) d [] = Err Syntax
nodes_at (suc n) d (OfMark m ∷ ts) = Err Syntax
nodes_at (suc n) d (OfWord w ∷ ts) =
    behind_word_at w d ts
    >>= λ x. with_node (record { depth = d; word = w }) x.0 x.1 (nodes_at n x.0 x.1)

-- Each node has a token of its own, so there are no more nodes than tokens.
abbrev pub term_at : List Lexeme → Front ParsedTerm
term_at ts = nodes_at (length ts) 0 ts

-- ---- atoms

-- terms by commas, and a closing parenthesis
abbrev pub terms_at : List Lexeme → Front (List ParsedTerm)
terms_at ts = several_at term_at ts >>= λ x. enclosed x.0 x.1

-- what follows the name of an atom
abbrev pub args_at : List ℕ → List Lexeme → Front ParsedAtom
args_at name [] =
    if is_reserved name then Err Syntax else Ok (record { name = name; args = [] }, [])
args_at name (s ∷ ts) =
    if is_mark mark.Open s then (terms_at ts >>= λ x. Ok (record { name = name; args = x.0 }, x.1))
    else (if is_reserved name then Err Syntax else Ok (record { name = name; args = [] }, s ∷ ts))

abbrev pub phrase_at : List Lexeme → Front ParsedAtom
phrase_at (OfWord (Name name) ∷ ts) = args_at name ts
phrase_at _ = Err Syntax

-- a post, or the heads of a rule
abbrev pub phrases_of : List Lexeme → Result (List ParsedAtom) Kind
phrases_of = each_by_commas phrase_at

-- ---- expressions

abbrev pub sum_operator : Lexeme → Option Operator
sum_operator (OfMark mark.Plus) = Some Add
sum_operator (OfMark mark.Minus) = Some Sub
sum_operator _ = None

abbrev pub product_operator : Lexeme → Option Operator
product_operator (OfMark mark.Star) = Some Mul
product_operator (OfMark mark.Quotient) = Some Quot
product_operator (OfMark mark.Rem) = Some Rem
product_operator (OfMark mark.Mod) = Some Mod
product_operator _ = None

-- a number, a variable, or what stands in parentheses
abbrev pub factor_at : (List Lexeme → Front ParsedExpression) → List Lexeme → Front ParsedExpression
factor_at inner [] = Err Syntax
factor_at inner (OfWord (Name x) ∷ ts) = Err Syntax
factor_at inner (OfWord (Variable x) ∷ ts) = Ok (parsed.Variable x, ts)
factor_at inner (OfWord (Number negative digits) ∷ ts) = Ok (parsed.Number negative digits, ts)
factor_at inner (OfMark m ∷ ts) =
    if is_mark mark.Open (OfMark m) then (inner ts >>= λ x. enclosed (parsed.Group x.0) x.1)
    else Err Syntax

-- To the left: what was read so far is the left side of the next operator. No more operators than
-- so many.
abbrev pub chain_at : (Lexeme → Option Operator) → (List Lexeme → Front ParsedExpression) → ℕ →
    ParsedExpression → List Lexeme → Front ParsedExpression
chain_at operator side n left [] = Ok (left, [])
chain_at operator side zero left (s ∷ ts) =
    either (operator s) (Ok (left, s ∷ ts)) (λ o. Err Syntax)
chain_at operator side (suc n) left (s ∷ ts) =
    either (operator s) (Ok (left, s ∷ ts))
    (λ o. side ts >>= λ x. chain_at operator side n (parsed.Operation o left x.0) x.1)

-- sides with operators of a level between them
abbrev pub level_at : (Lexeme → Option Operator) → (List Lexeme → Front ParsedExpression) →
    List Lexeme → Front ParsedExpression
level_at operator side ts =
    side ts >>= λ x. chain_at operator side (most_expression_depth - 1) x.0 x.1

abbrev pub product_at : (List Lexeme → Front ParsedExpression) → List Lexeme →
    Front ParsedExpression
product_at inner = level_at product_operator (factor_at inner)

-- no more parentheses in one another than so many
unfoldable pub sum_at : ℕ → List Lexeme → Front ParsedExpression
sum_at zero ts = Err Syntax
sum_at (suc n) ts = level_at sum_operator (product_at (sum_at n)) ts

-- the operators of a level, and what stands on their sides
abbrev pub operator_of : Level → Lexeme → Option Operator
operator_of level.Sums = sum_operator
operator_of level.Products = product_operator

abbrev pub side_at : Level → (List Lexeme → Front ParsedExpression) → List Lexeme →
    Front ParsedExpression
side_at level.Sums = product_at
side_at level.Products = factor_at

-- A number or a variable has depth 1. An operation is one deeper than its deeper side, and
-- parentheses add one.
abbrev pub fits : ℕ → ParsedExpression → Bool
fits zero f = false
fits (suc n) (parsed.Number negative digits) = true
fits (suc n) (parsed.Variable x) = true
fits (suc n) (parsed.Group f) = fits n f
fits (suc n) (parsed.Operation o f g) = fits n f && fits n g

abbrev pub fitting : ParsedExpression → List Lexeme → Front ParsedExpression
fitting f ts = if fits most_expression_depth f then Ok (f, ts) else Err Syntax

unfoldable pub expression_at : List Lexeme → Front ParsedExpression
expression_at ts = sum_at most_expression_depth ts >>= λ x. fitting x.0 x.1

-- ---- guards

abbrev pub relation : Lexeme → Option Relation
relation (OfMark mark.Less) = Some Less
relation (OfMark mark.AtMost) = Some LessEqual
relation (OfMark mark.Greater) = Some Greater
relation (OfMark mark.AtLeast) = Some GreaterEqual
relation (OfMark mark.SameValue) = Some Equal
relation (OfMark mark.OtherValue) = Some Unequal
relation _ = None

-- `==`, or `\==`, which is false
abbrev pub equality : Lexeme → Option Bool
equality (OfMark mark.Equals) = Some true
equality (OfMark mark.Differs) = Some false
equality _ = None

abbrev pub equal : Bool → ParsedTerm → ParsedTerm → GuardMember
equal true v w = parsed.Same v w
equal false v w = parsed.Differ v w

-- a relation and what is compared with this expression
abbrev pub relation_at : ParsedExpression → List Lexeme → Front GuardMember
relation_at f [] = Err Syntax
relation_at f (s ∷ ts) =
    either (relation s) (Err Syntax)
    (λ r. expression_at ts >>= λ x. Ok (parsed.Compared r f x.0, x.1))

abbrev pub compared_at : List Lexeme → Front GuardMember
compared_at ts = expression_at ts >>= λ x. relation_at x.0 x.1

abbrev pub other_side_at : Bool → ParsedTerm → List Lexeme → Front GuardMember
other_side_at same t ts = term_at ts >>= λ x. Ok (equal same t x.0, x.1)

abbrev pub plain_test_at : List Lexeme → Front GuardMember
plain_test_at [] = compared_at []
plain_test_at (s ∷ ts) = if is_true s then Ok (parsed.Always, ts) else compared_at (s ∷ ts)

-- a term with `==` or `\==` behind it, or another member
abbrev pub sides_at : List Lexeme → ParsedTerm → List Lexeme → Front GuardMember
sides_at ts t [] = plain_test_at ts
sides_at ts t (e ∷ us) = either (equality e) (plain_test_at ts) (λ same. other_side_at same t us)

abbrev pub test_by : List Lexeme → Front ParsedTerm → Front GuardMember
test_by ts (Ok x) = sides_at ts x.0 x.1
test_by ts (Err k) = plain_test_at ts

abbrev pub test_at : List Lexeme → Front GuardMember
test_at ts = test_by ts (term_at ts)

abbrev pub tests_of : List Lexeme → Result (List GuardMember) Kind
tests_of = each_by_commas test_at

-- ---- bodies

abbrev pub added_at : List Lexeme → Front BodyMember
added_at ts = phrase_at ts >>= λ x. Ok (parsed.Add x.0, x.1)

-- a variable, and what it is
abbrev pub is_member_at : Lexeme → List Lexeme → Front BodyMember
is_member_at (OfWord (Variable x)) ts = expression_at ts >>= λ e. Ok (parsed.Is x e.0, e.1)
is_member_at _ ts = Err Syntax

abbrev pub last_member_at : List Lexeme → Front BodyMember
last_member_at [] = Err Syntax
last_member_at (s ∷ ts) = if is_true s then Ok (parsed.Nothing, ts) else added_at (s ∷ ts)

abbrev pub member_at : List Lexeme → Front BodyMember
member_at (s ∷ e ∷ ts) =
    if is_mark mark.Is e then is_member_at s ts
    else (if is_mark mark.Open e then added_at (s ∷ e ∷ ts) else last_member_at (s ∷ e ∷ ts))
member_at ts = last_member_at ts

abbrev pub body_of : List Lexeme → Result (List BodyMember) Kind
body_of = each_by_commas member_at

-- ---- rules

-- what comes before the first such token
abbrev pub before : (Lexeme → Bool) → List Lexeme → List Lexeme
before p [] = []
before p (s ∷ ts) = if p s then [] else s ∷ before p ts

-- the first such token and what comes after it
abbrev pub from_first : (Lexeme → Bool) → List Lexeme → List Lexeme
from_first p [] = []
from_first p (s ∷ ts) = if p s then s ∷ ts else from_first p ts

-- cut before the first such token
pub record IsCut (p : Lexeme → Bool) (ts us vs : List Lexeme) : Type 0 where
  pub front : before p ts ≡ us
  pub back : from_first p ts ≡ vs

-- cut at the first such token, which is let go
pub record IsParted (p : Lexeme → Bool) (ts us vs : List Lexeme) : Type 0 where
  pub divider : Lexeme
  pub cut : IsCut p ts us (divider ∷ vs)

-- what stands between the parts of a rule
abbrev pub divides : Divider → Lexeme → Bool
divides divider.Arrow = is_arrow
divides divider.Backslash = is_mark mark.Backslash
divides divider.Bar = is_mark mark.Bar

-- two lists with a sign between them, or the second one alone
abbrev pub parts_by : {A B : Type 0} → (List Lexeme → Result (List A) Kind) →
    (List Lexeme → Result (List B) Kind) → List Lexeme → List Lexeme → Result (List A × List B) Kind
parts_by first second front [] = second front >>= λ ys. Ok ([], ys)
parts_by first second front (s ∷ ts) = first front >>= λ xs. second ts >>= λ ys. Ok (xs, ys)

-- the heads: those that are kept, and those that are removed
abbrev pub heads_by : List Lexeme → List Lexeme → Result (List ParsedAtom × List ParsedAtom) Kind
heads_by = parts_by phrases_of phrases_of

abbrev pub heads_of : List Lexeme → Result (List ParsedAtom × List ParsedAtom) Kind
heads_of ts = heads_by (before (is_mark mark.Backslash) ts) (from_first (is_mark mark.Backslash) ts)

abbrev pub all_kept : List Lexeme → Result (List ParsedAtom × List ParsedAtom) Kind
all_kept ts = phrases_of ts >>= λ kept. Ok (kept, [])

abbrev pub heads_by_arrow : Lexeme → List Lexeme → Result (List ParsedAtom × List ParsedAtom) Kind
heads_by_arrow s ts = if is_mark mark.Propagate s then all_kept ts else heads_of ts

-- the guard and the body
abbrev pub consequence_by : List Lexeme → List Lexeme →
    Result (List GuardMember × List BodyMember) Kind
consequence_by = parts_by tests_of body_of

abbrev pub consequence_of : List Lexeme → Result (List GuardMember × List BodyMember) Kind
consequence_of ts = consequence_by (before (is_mark mark.Bar) ts) (from_first (is_mark mark.Bar) ts)

abbrev pub rule_by : Option (List ℕ) → List Lexeme → List Lexeme → Result ParsedRule Kind
rule_by rule_name heads [] = Err Syntax
rule_by rule_name heads (s ∷ ts) =
    heads_by_arrow s heads >>= λ hs. consequence_of ts >>= λ c.
    Ok (record { rule_name = rule_name; kept = hs.0; removed = hs.1; guard = c.0; body = c.1 })

abbrev pub named_rule_of : Option (List ℕ) → List Lexeme → Result ParsedRule Kind
named_rule_of rule_name ts = rule_by rule_name (before is_arrow ts) (from_first is_arrow ts)

abbrev pub rule_of : List Lexeme → Result ParsedRule Kind
rule_of (s ∷ e ∷ ts) =
    if is_mark mark.At e then either (named s) (Err Syntax) (λ name. named_rule_of (Some name) ts)
    else named_rule_of None (s ∷ e ∷ ts)
rule_of ts = named_rule_of None ts

-- ---- declarations

abbrev pub is_opened : List ℕ → Lexeme → Lexeme → Bool
is_opened w s n = is_mark mark.Open s && is_named w (named n)

abbrev pub are_closed : Lexeme → Lexeme → Bool
are_closed s e = is_mark mark.Close s && is_mark mark.Close e

-- `(chr))`
abbrev pub is_module : List Lexeme → Bool
is_module (s ∷ n ∷ c ∷ d ∷ []) = is_opened (codes "chr") s n && are_closed c d
is_module _ = false

-- `(library(chr))`
abbrev pub is_library : List Lexeme → Bool
is_library (s ∷ n ∷ ts) = is_opened (codes "library") s n && is_module ts
is_library _ = false

abbrev pub declared_of : Lexeme → Lexeme → Lexeme → Result Declared Kind
declared_of (OfWord (Name name)) (OfMark mark.Slash) (OfWord (Number false digits)) =
    Ok (record { name = name; digits = digits })
declared_of _ _ _ = Err Syntax

abbrev pub declared_at : List Lexeme → Front Declared
declared_at (name ∷ slash ∷ number ∷ ts) = declared_of name slash number >>= λ d. Ok (d, ts)
declared_at _ = Err Syntax

abbrev pub declarations_of : List Lexeme → Result (List Declared) Kind
declarations_of = each_by_commas declared_at

abbrev pub directive_of : List ℕ → List Lexeme → Result Statement Kind
directive_of name ts =
    if bytes_eq name (codes "chr_constraint")
    then (declarations_of ts >>= λ ds. Ok (parsed.Declaration ds))
    else (if bytes_eq name (codes "use_module") && is_library ts then Ok parsed.Import
    else Err Syntax)

abbrev pub a_rule : List Lexeme → Result Statement Kind
a_rule ts = rule_of ts >>= λ r. Ok (parsed.Rule r)

abbrev pub statement_of : List Lexeme → Result Statement Kind
statement_of (s ∷ e ∷ ts) =
    if is_mark mark.Declares s then either (named e) (Err Syntax) (λ name. directive_of name ts)
    else a_rule (s ∷ e ∷ ts)
statement_of ts = a_rule ts
