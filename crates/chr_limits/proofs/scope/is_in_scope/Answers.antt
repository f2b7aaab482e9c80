use Rattle.std.proofs.Common.{◌≡◌, true, [], ◌++◌, flat_map, map, sym, ap, ◌∙◌, arith}
use Rattle.chr_grammar.specs.Views.{raw_rule, test}
use Rattle.chr_limits.specs.Variables.{head_variables, test_variables, member_variables}
use Rattle.chr_limits.specs.Scope.{are_seen}
use Rattle.chr_limits.specs.Views.{names}
use Rattle.chr_limits.proofs.Meeting.{short_more, body_left}
use Rattle.chr_limits.proofs.scope.is_in_scope.Goals as goal

pub returns-in_default : goal.returns-in_default
returns-in_default g c =
    let r = raw_rule c.args.rule.now in
    let guarded = short_more [] (head_variables r) (flat_map test_variables r.guard) c.in_default.ensures in
    absurd (omega (arith, short_more [] (head_variables r ++ flat_map test_variables r.guard) (flat_map member_variables r.body) guarded))

pub is_body_in_scope-requires : goal.is_body_in_scope-requires
is_body_in_scope-requires g c =
    let r = raw_rule c.args.rule.now in
    let guarded : are_seen (names c.in-Some.seen.items) (flat_map test_variables r.guard) ≡ true = ap (λ l. are_seen (names c.in-Some.seen.items) (flat_map test_variables (map test l))) (sym c.deref-2.ensures.value) ∙ ap (λ l. are_seen (names l) (flat_map test_variables (map test c.deref-2.result.now))) (sym c.deref.ensures.0) ∙ sym c.if-not-is_guard_seen.ensures in
    rw c.deref-3.ensures.value (body_left (head_variables r) (flat_map test_variables r.guard) (flat_map member_variables r.body) (names c.in-Some.seen.items) c.in-Some.ensures guarded c.requires)
