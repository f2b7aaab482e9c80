-- Whether each variable of a rule has a value where it is used, and none gets a second one.
use Rattle.std.specs.Prelude.{ℕ, Bool, true, not, ◌&&◌, List, [], ◌∷◌, ◌++◌, flat_map}
use Rattle.std.specs.List.{list_all}
use Rattle.chr_grammar.specs.Parsed as parsed
use Rattle.chr_grammar.specs.Parsed.{BodyMember, ParsedRule}
use Rattle.chr_limits.specs.Variables.{formula_variables, phrase_variables, test_variables, head_variables, is_seen, seen}

abbrev pub are_seen : List (List ℕ) → List (List ℕ) → Bool
are_seen known names = list_all (is_seen known) names

-- The variable left of `is` has no value before, and one after it.
abbrev pub body_in_scope : List (List ℕ) → List BodyMember → Bool
body_in_scope known [] = true
body_in_scope known (parsed.Nothing ∷ ms) = body_in_scope known ms
body_in_scope known (parsed.Is x e ∷ ms) =
    not (is_seen known x) && are_seen known (formula_variables e) &&
    body_in_scope (known ++ x ∷ []) ms
body_in_scope known (parsed.Add p ∷ ms) =
    are_seen known (phrase_variables p) && body_in_scope known ms

abbrev pub is_in_scope : ParsedRule → Bool
is_in_scope r =
    are_seen (seen (head_variables r)) (flat_map test_variables r.guard) &&
    body_in_scope (seen (head_variables r)) r.body
