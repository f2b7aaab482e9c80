use Rattle.std.proofs.lemmas.Bool.Decides.{nat_tests}
use Rattle.std.proofs.Common.{length, sym, ◌∙◌, ◌≤◌, arith}
use Rattle.chr_index.proofs.Slots.{get_there}
use Rattle.chr_search.specs.Joined.{join_of}
use Rattle.chr_search.proofs.Partners.{repeated, no_step}
use Rattle.chr_search.proofs.Asking.{any_among, narrowed_by}
use Rattle.chr_search.proofs.join.Join.narrow_by.Goals as goal

pub returns-then-is_among-clause-narrowed : goal.returns-then-is_among-clause-narrowed
returns-then-is_among-clause-narrowed g c = λ m x f. repeated _ _ _ x (sym (any_among c.args.labels.now c.args.label) ∙ sym c.is_among.ensures ∙ c.if-is_among.true) f

pub returns-in_default-clause-narrowed : goal.returns-in_default-clause-narrowed
returns-in_default-clause-narrowed g c =
    let past : length c.args.self.now.order.now ≤ length c.args.labels.now = grind (arith, nat_tests, c.in_default.ensures.lookup.0) in
    λ m x f. no_step (join_of c.args.self.now) c.args.labels.now c.args.label x past f

pub returns-clause-narrowed : goal.returns-clause-narrowed
returns-clause-narrowed g c =
    let away = sym (any_among c.args.labels.now c.args.label) ∙ sym c.is_among.ensures ∙ c.if-is_among.false in
    narrowed_by _ c.requires.plan _ c.args.narrowed.now c.fit_at.new.binding c.in-Some.step.now c.args.label c.requires.ready
    (get_there c.args.self.now.order.now (length c.args.labels.now) c.in-Some.step.now c.in-Some.ensures.lookup.0 c.in-Some.ensures.lookup.1) away (c.is_in_turn.ensures.0 c.if-not-is_in_turn.false) c.fit_at.result c.fit_at.ensures.narrows
