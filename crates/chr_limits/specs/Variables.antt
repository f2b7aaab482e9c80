-- The variables of a rule, in text order, and how many there are.
use Rattle.std.specs.Prelude.{ℕ, Bool, not, ◌&&◌, List, [], ◌∷◌, ◌++◌, flat_map, if◌then◌else◌}
use Rattle.std.specs.List.{list_any}
use Rattle.std.specs.Str.{bytes_eq}
use Rattle.chr_lex.specs.Tokens.{Word, Name, Variable, Number}
use Rattle.chr_grammar.specs.Parsed as parsed
use Rattle.chr_grammar.specs.Parsed.{ParsedExpression, ParsedTerm, ParsedAtom, GuardMember, BodyMember, ParsedRule}

-- the variables at their places, in text order
abbrev pub word_variables : Word → List (List ℕ)
word_variables (Name name) = []
word_variables (Variable name) = name ∷ []
word_variables (Number negative digits) = []

abbrev pub formula_variables : ParsedExpression → List (List ℕ)
formula_variables (parsed.Number negative digits) = []
formula_variables (parsed.Variable name) = name ∷ []
formula_variables (parsed.Group inner) = formula_variables inner
formula_variables (parsed.Operation o a b) = formula_variables a ++ formula_variables b

abbrev pub term_variables : ParsedTerm → List (List ℕ)
term_variables t = flat_map (λ n. word_variables n.word) t

abbrev pub phrase_variables : ParsedAtom → List (List ℕ)
phrase_variables p = flat_map term_variables p.args

abbrev pub test_variables : GuardMember → List (List ℕ)
test_variables parsed.Always = []
test_variables (parsed.Compared r a b) = formula_variables a ++ formula_variables b
test_variables (parsed.Same t u) = term_variables t ++ term_variables u
test_variables (parsed.Differ t u) = term_variables t ++ term_variables u

abbrev pub member_variables : BodyMember → List (List ℕ)
member_variables parsed.Nothing = []
member_variables (parsed.Is x e) = x ∷ formula_variables e
member_variables (parsed.Add p) = phrase_variables p

abbrev pub head_variables : ParsedRule → List (List ℕ)
head_variables r = flat_map phrase_variables r.kept ++ flat_map phrase_variables r.removed

abbrev pub variables_of : ParsedRule → List (List ℕ)
variables_of r =
    head_variables r ++ flat_map test_variables r.guard ++ flat_map member_variables r.body

-- `_`, which is a new variable at each place
abbrev pub is_blank : List ℕ → Bool
is_blank name = bytes_eq name (95 ∷ [])

-- whether a variable is one of those seen before
abbrev pub is_seen : List (List ℕ) → List ℕ → Bool
is_seen seen name = not (is_blank name) && list_any (bytes_eq name) seen

-- the variables seen with those at some places, after those seen before: each once, and each `_`
-- apart
abbrev pub seen_from : List (List ℕ) → List (List ℕ) → List (List ℕ)
seen_from seen [] = seen
seen_from seen (name ∷ names) =
    if is_seen seen name then seen_from seen names else seen_from (seen ++ name ∷ []) names

-- The number of a variable is its place in this list, from 0.
abbrev pub seen : List (List ℕ) → List (List ℕ)
seen names = seen_from [] names
