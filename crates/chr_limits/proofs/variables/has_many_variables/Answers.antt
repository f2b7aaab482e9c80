use Rattle.std.proofs.Common.{◌≡◌, ◌<◌, length, map, flat_map, nat_lt, sym, ap, ◌∙◌}
use Rattle.std.proofs.lemmas.List.{length-map}
use Rattle.chr_grammar.specs.Views.{raw_rule, test, member}
use Rattle.chr_limits.specs.Variables.{head_variables, test_variables, member_variables, seen_from}
use Rattle.chr_limits.specs.Views.{names}
use Rattle.chr_limits.proofs.Meeting.{met_in_turn, some_then}
use Rattle.chr_limits.proofs.variables.has_many_variables.Goals as goal

pub returns-in-Some-meet_each : goal.returns-in-Some-meet_each
returns-in-Some-meet_each g c =
    let r = raw_rule c.args.rule.now in
    let heads = names c.in-Some.seen.items in
    let guarded = names c.meet_each.new.seen.items in
    let all = names c.meet_each-2.new.seen.items in
    let tests = some_then c.meet_each.result (24 < length (seen_from heads (flat_map test_variables (map test c.deref.result.now)))) (guarded ≡ seen_from heads (flat_map test_variables (map test c.deref.result.now))) c.meet_each.ensures c.if-is_none.ensures in
    let turn = met_in_turn (head_variables r) (flat_map test_variables r.guard) (flat_map member_variables r.body) heads guarded all c.in-Some.ensures (tests ∙ ap (λ l. seen_from heads (flat_map test_variables (map test l))) c.deref.ensures.value) (c.in-Some-meet_each.ensures ∙ ap (λ l. seen_from guarded (flat_map member_variables (map member l))) c.deref-2.ensures.value) in
    ap (nat_lt 24) (c.len.ensures.value ∙ sym (length-map c.meet_each-2.new.seen.items (λ name. name.now)) ∙ ap length (sym turn))
