-- What is too long or too many.
use Rattle.std.specs.Prelude.{ℕ, suc, Bool, true, false, ◌+◌, ◌||◌, List, [], ◌∷◌, length, nat_lt, nat_le, nat_eq, filter}
use Rattle.std.specs.List.{list_any, take_while}
use Rattle.chr_value.specs.Bounds.{most_arguments, most_comparisons, most_depth, most_heads, most_items, most_size, most_variables}
use Rattle.chr_grammar.specs.Parsed as parsed
use Rattle.chr_grammar.specs.Parsed.{TermNode, ParsedTerm, ParsedAtom, GuardMember, BodyMember, ParsedRule}
use Rattle.chr_limits.specs.Words.{is_long, rule_has}
use Rattle.chr_limits.specs.Variables.{variables_of, seen}

-- A word has depth and size 1. A functor's depth is one more than that of its deepest argument, and
-- its size one more than the sum of theirs, so the depth of a term is one more than the most
-- parentheses in which a word of it stands, and its size is how many words it has.
abbrev pub is_deep : ParsedTerm → Bool
is_deep t = list_any (λ n. nat_le most_depth n.depth) t

-- how many arguments a word in so many parentheses has, by the nodes behind it: those one deeper,
-- up to the first that isn't deeper
abbrev pub arguments_behind : ℕ → List TermNode → ℕ
arguments_behind d ns =
    length (filter (λ n. nat_eq n.depth (suc d)) (take_while (λ n. nat_lt d n.depth) ns))

-- a functor with more than 8 arguments
abbrev pub has_wide_functor : ParsedTerm → Bool
has_wide_functor [] = false
has_wide_functor (n ∷ ns) =
    nat_lt most_arguments (arguments_behind n.depth ns) || has_wide_functor ns

abbrev pub is_large_term : ParsedTerm → Bool
is_large_term t = nat_lt most_size (length t) || is_deep t || has_wide_functor t

-- terms that are too large, in an atom, a guard or a body
abbrev pub has_large_args : ParsedAtom → Bool
has_large_args p = list_any is_large_term p.args

abbrev pub compares_large_terms : GuardMember → Bool
compares_large_terms parsed.Always = false
compares_large_terms (parsed.Compared r a b) = false
compares_large_terms (parsed.Same t u) = is_large_term t || is_large_term u
compares_large_terms (parsed.Differ t u) = is_large_term t || is_large_term u

abbrev pub adds_large_args : BodyMember → Bool
adds_large_args parsed.Nothing = false
adds_large_args (parsed.Is x e) = false
adds_large_args (parsed.Add p) = has_large_args p

abbrev pub has_large_term : ParsedRule → Bool
has_large_term r =
    list_any has_large_args r.kept || list_any has_large_args r.removed
    || list_any compares_large_terms r.guard || list_any adds_large_args r.body

-- an atom with more than 8 arguments
abbrev pub has_many_args : ParsedAtom → Bool
has_many_args p = nat_lt most_arguments (length p.args)

abbrev pub adds_many_args : BodyMember → Bool
adds_many_args parsed.Nothing = false
adds_many_args (parsed.Is x e) = false
adds_many_args (parsed.Add p) = has_many_args p

-- `true` is no comparison of a guard and no item of a body
abbrev pub is_comparison : GuardMember → Bool
is_comparison parsed.Always = false
is_comparison (parsed.Compared r a b) = true
is_comparison (parsed.Same s t) = true
is_comparison (parsed.Differ s t) = true

abbrev pub is_item : BodyMember → Bool
is_item parsed.Nothing = false
is_item (parsed.Is x e) = true
is_item (parsed.Add p) = true

abbrev pub has_wide_atom : ParsedRule → Bool
has_wide_atom r =
    list_any has_many_args r.kept || list_any has_many_args r.removed ||
    list_any adds_many_args r.body

-- more than 6 heads, 16 comparisons, 16 body items or 24 variables
abbrev pub has_many_parts : ParsedRule → Bool
has_many_parts r =
    nat_lt most_heads (length r.kept + length r.removed) ||
    nat_lt most_comparisons (length (filter is_comparison r.guard)) ||
    nat_lt most_items (length (filter is_item r.body)) ||
    nat_lt most_variables (length (seen (variables_of r)))

abbrev pub is_too_large : ParsedRule → Bool
is_too_large r = rule_has is_long r || has_wide_atom r || has_large_term r || has_many_parts r
