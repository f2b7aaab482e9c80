-- What a name, a variable or a number may not be, and the parts of a rule in which such a word
-- stands.
use Rattle.std.specs.Prelude.{ℕ, Bool, true, false, List, length, nat_lt, is_none, ◌||◌, Option, Some, None}
use Rattle.std.specs.List.{list_any}
use Rattle.chr_value.specs.Bounds.{most_name_bytes}
use Rattle.chr_lex.specs.Tokens.{Word, Name, Variable, Number}
use Rattle.chr_grammar.specs.Parsed as parsed
use Rattle.chr_grammar.specs.Parsed.{ParsedExpression, ParsedTerm, ParsedAtom, GuardMember, BodyMember, ParsedRule}
use Rattle.chr_limits.specs.declared.limits.Unfit.{Unfit}
use Rattle.chr_limits.specs.declared.limits.Unfit.TheVariants as unfit
use Rattle.chr_limits.specs.Numbers.{whole_number}

-- a number outside the range of 64 bits with sign
abbrev pub is_out_of_range : Word → Bool
is_out_of_range (Name name) = false
is_out_of_range (Variable name) = false
is_out_of_range (Number negative digits) = is_none (whole_number negative digits)

-- a name or a variable of more than 64 bytes
abbrev pub is_long : Word → Bool
is_long (Name name) = nat_lt most_name_bytes (length name)
is_long (Variable name) = nat_lt most_name_bytes (length name)
is_long (Number negative digits) = false

abbrev pub is_variable : Word → Bool
is_variable (Name name) = false
is_variable (Variable name) = true
is_variable (Number negative digits) = false

abbrev pub is_unfit : Unfit → Word → Bool
is_unfit unfit.OutOfRange = is_out_of_range
is_unfit unfit.TooLong = is_long
is_unfit unfit.Variable = is_variable

-- whether a word of a part passes a test
abbrev pub formula_has : (Word → Bool) → ParsedExpression → Bool
formula_has test (parsed.Number negative digits) = test (Number negative digits)
formula_has test (parsed.Variable name) = test (Variable name)
formula_has test (parsed.Group inner) = formula_has test inner
formula_has test (parsed.Operation o a b) = formula_has test a || formula_has test b

abbrev pub term_has : (Word → Bool) → ParsedTerm → Bool
term_has test t = list_any (λ n. test n.word) t

abbrev pub phrase_has : (Word → Bool) → ParsedAtom → Bool
phrase_has test p = test (Name p.name) || list_any (term_has test) p.args

abbrev pub test_has : (Word → Bool) → GuardMember → Bool
test_has test parsed.Always = false
test_has test (parsed.Compared r a b) = formula_has test a || formula_has test b
test_has test (parsed.Same t u) = term_has test t || term_has test u
test_has test (parsed.Differ t u) = term_has test t || term_has test u

abbrev pub member_has : (Word → Bool) → BodyMember → Bool
member_has test parsed.Nothing = false
member_has test (parsed.Is x e) = test (Variable x) || formula_has test e
member_has test (parsed.Add p) = phrase_has test p

abbrev pub rule_name_has : (Word → Bool) → Option (List ℕ) → Bool
rule_name_has test None = false
rule_name_has test (Some name) = test (Name name)

abbrev pub rule_has : (Word → Bool) → ParsedRule → Bool
rule_has test r =
    rule_name_has test r.rule_name || list_any (phrase_has test) r.kept ||
    list_any (phrase_has test) r.removed || list_any (test_has test) r.guard ||
    list_any (member_has test) r.body
