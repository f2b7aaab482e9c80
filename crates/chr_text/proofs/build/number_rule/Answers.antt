use Rattle.std.proofs.Common.{ℕ, Some, length, map, sym, ap, subst, ◌∙◌, arith}
use Rattle.std.proofs.lemmas.Result.{err_from_is_err_and}
use Rattle.chr_grammar.specs.Views as by_texts
use Rattle.chr_limits.specs.Views.{names as texts}
use Rattle.chr_limits.specs.Variables.{phrase_variables, test_variables, member_variables}
use Rattle.chr_text.specs.Numbering.{or_full, numbered_rule_atom, number_test, number_member}
use Rattle.chr_text.specs.Translation as raw
use Rattle.chr_rule.specs.Rules.{Simpagation}
use Rattle.chr_rule.specs.Scope.{IsRule}
use Rattle.chr_text.proofs.InScope.{grows, shape_meets, test_meets, member_meets, kept_room, heads_room, guard_room}
use Rattle.chr_text.proofs.Numbered.{done, given_done, given_room, given_fails, room_as, kept_fails, removed_fails, guard_fails, body_fails, rule_done, heads_joined, rule_same, as_many}
use Rattle.chr_text.proofs.Lists.{each_some}
use Rattle.chr_text.proofs.build.number_rule.Goals as goal

pub number_parts-requires-clause-room : goal.number_parts-requires-clause-room
number_parts-requires-clause-room g c =
    let r = by_texts.raw_rule {Z = g.row.A.Denot} c.args.rule.now in
    given_room raw.rule_atom (ap texts c.new-seen.ensures) (ap (map (by_texts.phrase {Z = g.row.A.Denot})) c.deref.ensures.value) (kept_room r c.requires.room)

pub number_parts-requires-2-clause-room : goal.number_parts-requires-2-clause-room
number_parts-requires-2-clause-room g c =
    let r = by_texts.raw_rule {Z = g.row.A.Denot} c.args.rule.now in
    let kept = given_done numbered_rule_atom raw.rule_atom (ap texts c.new-seen.ensures) (ap (map (by_texts.phrase {Z = g.row.A.Denot})) c.deref.ensures.value) c.in_ok-heads.ensures.gives c.in_ok-heads.ensures.seen in
    given_room raw.rule_atom kept.seen (ap (map (by_texts.phrase {Z = g.row.A.Denot})) c.deref-2.ensures.value) (heads_room r c.requires.room)

pub number_parts-requires-3-clause-room : goal.number_parts-requires-3-clause-room
number_parts-requires-3-clause-room g c =
    let r = by_texts.raw_rule {Z = g.row.A.Denot} c.args.rule.now in
    let kept = given_done numbered_rule_atom raw.rule_atom (ap texts c.new-seen.ensures) (ap (map (by_texts.phrase {Z = g.row.A.Denot})) c.deref.ensures.value) c.in_ok-heads.ensures.gives c.in_ok-heads.ensures.seen in
    let removed = given_done numbered_rule_atom raw.rule_atom kept.seen (ap (map (by_texts.phrase {Z = g.row.A.Denot})) c.deref-2.ensures.value) c.in_ok-removed.ensures.gives c.in_ok-removed.ensures.seen in
    room_as raw.test removed.seen (ap (map (by_texts.test {Z = g.row.A.Denot})) c.deref-3.ensures.value) (guard_room r c.requires.room)

pub number_parts-requires-4-clause-room : goal.number_parts-requires-4-clause-room
number_parts-requires-4-clause-room g c =
    let kept = given_done numbered_rule_atom raw.rule_atom (ap texts c.new-seen.ensures) (ap (map (by_texts.phrase {Z = g.row.A.Denot})) c.deref.ensures.value) c.in_ok-heads.ensures.gives c.in_ok-heads.ensures.seen in
    let removed = given_done numbered_rule_atom raw.rule_atom kept.seen (ap (map (by_texts.phrase {Z = g.row.A.Denot})) c.deref-2.ensures.value) c.in_ok-removed.ensures.gives c.in_ok-removed.ensures.seen in
    let guard = done (each_some number_test) raw.test removed.seen (ap (map (by_texts.test {Z = g.row.A.Denot})) c.deref-3.ensures.value) c.in_ok-guard.ensures.gives c.in_ok-guard.ensures.seen in
    room_as raw.member guard.seen (ap (map (by_texts.member {Z = g.row.A.Denot})) c.deref-4.ensures.value) c.requires.room

pub returns-in_err-heads-clause-gives : goal.returns-in_err-heads-clause-gives
returns-in_err-heads-clause-gives g c =
    let p = err_from_is_err_and c.from_residual.result c.from_residual.ensures.1 in
    rw (p.1, p.2) (kept_fails c.in_err-heads.field-0.0 c.args.names.now (raw.rule (by_texts.raw_rule {Z = g.row.A.Denot} c.args.rule.now)) (given_fails numbered_rule_atom raw.rule_atom c.in_err-heads.field-0.0 c.args.names.now (ap texts c.new-seen.ensures) (ap (map (by_texts.phrase {Z = g.row.A.Denot})) c.deref.ensures.value) c.in_err-heads.ensures.gives))

pub returns-in_err-removed-clause-gives : goal.returns-in_err-removed-clause-gives
returns-in_err-removed-clause-gives g c =
    let r = by_texts.raw_rule {Z = g.row.A.Denot} c.args.rule.now in
    let kept = given_done numbered_rule_atom raw.rule_atom (ap texts c.new-seen.ensures) (ap (map (by_texts.phrase {Z = g.row.A.Denot})) c.deref.ensures.value) c.in_ok-heads.ensures.gives c.in_ok-heads.ensures.seen in
    let p = err_from_is_err_and c.from_residual-in_err-removed.result c.from_residual-in_err-removed.ensures.1 in
    rw (p.1, p.2) (removed_fails c.in_err-removed.field-0.0 c.args.names.now _ (raw.rule r) _ kept.is (given_fails numbered_rule_atom raw.rule_atom c.in_err-removed.field-0.0 c.number_parts.new.names kept.seen (ap (map (by_texts.phrase {Z = g.row.A.Denot})) c.deref-2.ensures.value) c.in_err-removed.ensures.gives))

pub returns-in_err-guard-clause-gives : goal.returns-in_err-guard-clause-gives
returns-in_err-guard-clause-gives g c =
    let r = by_texts.raw_rule {Z = g.row.A.Denot} c.args.rule.now in
    let kept = given_done numbered_rule_atom raw.rule_atom (ap texts c.new-seen.ensures) (ap (map (by_texts.phrase {Z = g.row.A.Denot})) c.deref.ensures.value) c.in_ok-heads.ensures.gives c.in_ok-heads.ensures.seen in
    let removed = given_done numbered_rule_atom raw.rule_atom kept.seen (ap (map (by_texts.phrase {Z = g.row.A.Denot})) c.deref-2.ensures.value) c.in_ok-removed.ensures.gives c.in_ok-removed.ensures.seen in
    let same = removed.seen in
    let p = err_from_is_err_and c.from_residual-in_err-guard.result c.from_residual-in_err-guard.ensures.1 in
    rw (p.1, p.2) (guard_fails c.in_err-guard.field-0.0 c.args.names.now _ _ (raw.rule r) _ _ kept.is removed.is (rw (← same, ← ap (map (by_texts.test {Z = g.row.A.Denot})) c.deref-3.ensures.value) c.in_err-guard.ensures.gives))

pub returns-in_err-body-clause-gives : goal.returns-in_err-body-clause-gives
returns-in_err-body-clause-gives g c =
    let r = by_texts.raw_rule {Z = g.row.A.Denot} c.args.rule.now in
    let kept = given_done numbered_rule_atom raw.rule_atom (ap texts c.new-seen.ensures) (ap (map (by_texts.phrase {Z = g.row.A.Denot})) c.deref.ensures.value) c.in_ok-heads.ensures.gives c.in_ok-heads.ensures.seen in
    let removed = given_done numbered_rule_atom raw.rule_atom kept.seen (ap (map (by_texts.phrase {Z = g.row.A.Denot})) c.deref-2.ensures.value) c.in_ok-removed.ensures.gives c.in_ok-removed.ensures.seen in
    let guard = done (each_some number_test) raw.test removed.seen (ap (map (by_texts.test {Z = g.row.A.Denot})) c.deref-3.ensures.value) c.in_ok-guard.ensures.gives c.in_ok-guard.ensures.seen in
    let same = guard.seen in
    let p = err_from_is_err_and c.from_residual-in_err-body.result c.from_residual-in_err-body.ensures.1 in
    rw (p.1, p.2) (body_fails c.in_err-body.field-0.0 c.args.names.now _ _ _ (raw.rule r) _ _ _ kept.is removed.is guard.is (rw (← same, ← ap (map (by_texts.member {Z = g.row.A.Denot})) c.deref-4.ensures.value) c.in_err-body.ensures.gives))

pub from_parts-requires : goal.from_parts-requires
from_parts-requires g c =
    let r = by_texts.raw_rule {Z = g.row.A.Denot} c.args.rule.now in
    let kept = given_done numbered_rule_atom raw.rule_atom (ap texts c.new-seen.ensures) (ap (map (by_texts.phrase {Z = g.row.A.Denot})) c.deref.ensures.value) c.in_ok-heads.ensures.gives c.in_ok-heads.ensures.seen in
    let removed = given_done numbered_rule_atom raw.rule_atom kept.seen (ap (map (by_texts.phrase {Z = g.row.A.Denot})) c.deref-2.ensures.value) c.in_ok-removed.ensures.gives c.in_ok-removed.ensures.seen in
    let guard = done (each_some number_test) raw.test removed.seen (ap (map (by_texts.test {Z = g.row.A.Denot})) c.deref-3.ensures.value) c.in_ok-guard.ensures.gives c.in_ok-guard.ensures.seen in
    let body = done (each_some number_member) raw.member guard.seen (ap (map (by_texts.member {Z = g.row.A.Denot})) c.deref-4.ensures.value) c.in_ok-body.ensures.gives c.in_ok-body.ensures.seen in
    let many = as_many _ c.number_parts-4.new.seen.items (raw.after_body r) c.len.ensures.value body.seen in
    let joined = heads_joined (length (raw.after_body r)) c.len-kept.result c.in_ok-heads.heads.items c.in_ok-removed.removed.items c.append.new.self.items c.in_ok-guard.guard.items c.in_ok-body.body.items (omega (arith, c.len-kept.ensures, c.in_ok-heads.heads.ok.0)) c.in_ok-append.ensures.items in
    rw many (subst IsRule (sym joined) (rule_same (raw.rule r) _ _ _ _ _ _ _ _ _ kept.is removed.is guard.is body.is c.requires.valid))

pub returns-clause-gives : goal.returns-clause-gives
returns-clause-gives g c =
    let r = by_texts.raw_rule {Z = g.row.A.Denot} c.args.rule.now in
    let kept = given_done numbered_rule_atom raw.rule_atom (ap texts c.new-seen.ensures) (ap (map (by_texts.phrase {Z = g.row.A.Denot})) c.deref.ensures.value) c.in_ok-heads.ensures.gives c.in_ok-heads.ensures.seen in
    let removed = given_done numbered_rule_atom raw.rule_atom kept.seen (ap (map (by_texts.phrase {Z = g.row.A.Denot})) c.deref-2.ensures.value) c.in_ok-removed.ensures.gives c.in_ok-removed.ensures.seen in
    let guard = done (each_some number_test) raw.test removed.seen (ap (map (by_texts.test {Z = g.row.A.Denot})) c.deref-3.ensures.value) c.in_ok-guard.ensures.gives c.in_ok-guard.ensures.seen in
    let body = done (each_some number_member) raw.member guard.seen (ap (map (by_texts.member {Z = g.row.A.Denot})) c.deref-4.ensures.value) c.in_ok-body.ensures.gives c.in_ok-body.ensures.seen in
    let many = as_many _ c.number_parts-4.new.seen.items (raw.after_body r) c.len.ensures.value body.seen in
    let joined = heads_joined (length (raw.after_body r)) c.len-kept.result c.in_ok-heads.heads.items c.in_ok-removed.removed.items c.append.new.self.items c.in_ok-guard.guard.items c.in_ok-body.body.items (omega (arith, c.len-kept.ensures, c.in_ok-heads.heads.ok.0)) c.in_ok-append.ensures.items in
    let made = rule_done _ _ _ _ _ (raw.rule r) _ _ _ _ kept.is removed.is guard.is body.is in
    rw (c.from_parts.ensures, many) (ap or_full (made ∙ ap (λ (x : Simpagation ℕ). Some (x, c.number_parts-4.new.names)) (sym joined)))

pub number_parts-requires-clause-grows : goal.number_parts-requires-clause-grows
number_parts-requires-clause-grows g c = grows raw.rule_atom phrase_variables shape_meets

pub number_parts-requires-2-clause-grows : goal.number_parts-requires-2-clause-grows
number_parts-requires-2-clause-grows g c = grows raw.rule_atom phrase_variables shape_meets

pub number_parts-requires-3-clause-grows : goal.number_parts-requires-3-clause-grows
number_parts-requires-3-clause-grows g c = grows raw.test test_variables test_meets

pub number_parts-requires-4-clause-grows : goal.number_parts-requires-4-clause-grows
number_parts-requires-4-clause-grows g c = grows raw.member member_variables member_meets

pub returns-in_err-body-clause-keeps : goal.returns-in_err-body-clause-keeps
returns-in_err-body-clause-keeps g c = λ t h. c.in_err-body.ensures.keeps t (c.in_ok-guard.ensures.keeps t (c.in_ok-removed.ensures.keeps t (c.in_ok-heads.ensures.keeps t h)))

pub returns-clause-keeps : goal.returns-clause-keeps
returns-clause-keeps g c = λ t h. c.in_ok-body.ensures.keeps t (c.in_ok-guard.ensures.keeps t (c.in_ok-removed.ensures.keeps t (c.in_ok-heads.ensures.keeps t h)))
