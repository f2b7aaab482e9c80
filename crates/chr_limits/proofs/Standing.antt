-- What is judged without a fault is what may stand.
use Rattle.std.proofs.Common.{◌≡◌, ◌<◌, ◌+◌, Bool, true, false, ltb, ◌||◌, cond, List, [], ◌∷◌, length, filter, Result, Ok, Err, refl, arith}
use Rattle.std.proofs.lemmas.Bool.{ltb-false, le-ltb, or_from}
use Rattle.std.proofs.lemmas.Bool.Decides.{nat_tests}
use Rattle.chr_value.proofs.Texts.{neither}
use Rattle.chr_grammar.specs.Parsed.{Declared, ParsedAtom, ParsedRule}
use Rattle.chr_limits.specs.Words.{is_long, rule_has}
use Rattle.chr_limits.specs.Limits.{has_wide_atom, has_large_term, has_many_parts, is_too_large, is_comparison, is_item}
use Rattle.chr_limits.specs.Variables.{variables_of, seen}
use Rattle.chr_limits.specs.Judging.{removes_nothing, rule_judged, declaration_judged, post_judged}
use Rattle.chr_limits.specs.Standing.{IsAllowedRule, AreAllowedDeclarations, AreAllowedPosts}

-- a test that is passed, and one that has to hold
pub passed : {A E : Type 0} (b : Bool) (e : E) (rest : Result A E) (x : A) → cond b (Err e) rest ≡ Ok x → (b ≡ false) × (rest ≡ Ok x)
passed true e rest x h = absurd cc
passed false e rest x h = (refl, h)

pub held : {A E : Type 0} (b : Bool) (e : E) (rest : Result A E) (x : A) → cond b rest (Err e) ≡ Ok x → (b ≡ true) × (rest ≡ Ok x)
held true e rest x h = (refl, h)
held false e rest x h = absurd cc

some_removed : (ps : List ParsedAtom) → removes_nothing ps ≡ false → 0 < length ps
some_removed [] h = absurd cc
some_removed (p ∷ ps) h = omega arith

none_else : (ps : List ParsedAtom) → 0 < length ps → removes_nothing ps ≡ false
none_else [] h = absurd (omega arith)
none_else (p ∷ ps) h = refl

-- what the test of the limits passes keeps to each
pub stands : (full : Bool) (r : ParsedRule) → rule_judged full r ≡ Ok tt → (full ≡ false) × IsAllowedRule r
stands full r h =
    let first = passed _ _ _ tt h in
    let second = passed _ _ _ tt first.1 in
    let third = passed _ _ _ tt second.1 in
    let whole = neither full (is_too_large r) third.0 in
    let large = neither (rule_has is_long r || has_wide_atom r || has_large_term r) (has_many_parts r) whole.1 in
    let terms = neither (rule_has is_long r || has_wide_atom r) (has_large_term r) large.0 in
    let words = neither (rule_has is_long r) (has_wide_atom r) terms.0 in
    let parts = neither (ltb 6 (length r.kept + length r.removed) || ltb 16 (length (filter is_comparison r.guard)) || ltb 16 (length (filter is_item r.body))) (ltb 24 (length (seen (variables_of r)))) large.1 in
    let items = neither (ltb 6 (length r.kept + length r.removed) || ltb 16 (length (filter is_comparison r.guard))) (ltb 16 (length (filter is_item r.body))) parts.0 in
    let heads = neither (ltb 6 (length r.kept + length r.removed)) (ltb 16 (length (filter is_comparison r.guard))) items.0 in
    (whole.0, record { removes = some_removed r.removed first.0; numbers = second.0; names = words.0; args = words.1; terms = terms.1; heads = ltb-false _ _ heads.0; comparisons = ltb-false _ _ heads.1; items = ltb-false _ _ items.1; variables = ltb-false _ _ parts.1; scoped = (held _ _ _ _ third.1).0 })

small : (r : ParsedRule) → IsAllowedRule r → is_too_large r ≡ false
small r s =
    or_from (rule_has is_long r || has_wide_atom r || has_large_term r) (has_many_parts r) (or_from _ _ (or_from _ _ s.names s.args) s.terms) (or_from _ _ (or_from _ _ (or_from _ _ (le-ltb _ _ s.heads) (le-ltb _ _ s.comparisons)) (le-ltb _ _ s.items)) (le-ltb _ _ s.variables))

pub passes : (full : Bool) (r : ParsedRule) → (full ≡ false) × IsAllowedRule r → rule_judged full r ≡ Ok tt
passes full r h = rw (none_else r.removed h.1.removes, h.1.numbers, or_from full (is_too_large r) h.0 (small r h.1), h.1.scoped) refl

pub declared : (all : List Declared) → declaration_judged all ≡ Ok tt → AreAllowedDeclarations all
declared all h = grind (arith, nat_tests, h)

pub declares : (all : List Declared) → AreAllowedDeclarations all → declaration_judged all ≡ Ok tt
declares all s = rw (s.numbers, s.names) refl

pub posted : (atoms : List ParsedAtom) → post_judged atoms ≡ Ok tt → AreAllowedPosts atoms
posted atoms h = grind (arith, nat_tests, h)

pub posts : (atoms : List ParsedAtom) → AreAllowedPosts atoms → post_judged atoms ≡ Ok tt
posts atoms s = rw (s.numbers, or_from _ _ (or_from _ _ s.names s.args) s.terms, s.no_variables) refl
