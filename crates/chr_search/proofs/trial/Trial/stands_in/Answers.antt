use Rattle.std.proofs.Common.{◌≡◌, ◌↔◌, Decides, IsTrue, Some, map, sym, subst, ◌∙◌}
use Rattle.std.specs.Arc.{arc_value}
use Rattle.chr_rule.specs.Rules.{rule_at}
use Rattle.chr_plan.specs.Plans.{plan_at}
use Rattle.chr_search.specs.Placed.{placed_as, ArePlacedIn}
use Rattle.chr_search.specs.Verdicts.{Trial, IsTrialOf}
use Rattle.chr_search.proofs.Placing.{stands}
use Rattle.chr_search.proofs.trial.Trial.stands_in.Goals as goal

pub returns-in-Some-rule : goal.returns-in-Some-rule
returns-in-Some-rule g c =
    let rules = c.args.program.now in
    let plans = c.args.plans.now in
    let store = c.args.store.now.entries in
    let order = c.in-Some.order.now in
    let rule = arc_value c.in-Some-rule.rule.now in
    let t : Trial = record { rule = arc_value c.self.inside.rule; number = c.self.inside.number; head = c.self.inside.head; placed = map placed_as c.self.inside.placed.items } in
    let ri : rule_at rules t.number ≡ Some rule = subst (λ n. rule_at rules n ≡ Some rule) c.from-2.ensures (sym c.in-Some-rule.ensures.rule) in
    let oi : plan_at plans t.number t.head ≡ Some order = subst (λ n. plan_at plans n t.head ≡ Some order) c.from.ensures (sym c.in-Some.ensures) in
    let placed : ArePlacedIn order store t.placed = subst (λ ps. ArePlacedIn order store (map placed_as ps)) c.deref.ensures.value (c.are_placed_in.ensures.0 c.if-not-are_placed_in.false) in
    let same : Decides c.same.result (rule ≡ t.rule) = (
      λ e. sym c.deref-in-Some-rule.ensures ∙ c.same.ensures.0 e ∙ c.deref-in-Some-rule-2.ensures,
      λ e. c.same.ensures.1 (c.deref-in-Some-rule.ensures ∙ e ∙ sym c.deref-in-Some-rule-2.ensures),
    ) in
    subst (λ (x : Trial). IsTrue c.same.result ↔ IsTrialOf rules plans store x) c.self.view_is (stands rules plans store t order rule c.same.result ri oi placed same)
