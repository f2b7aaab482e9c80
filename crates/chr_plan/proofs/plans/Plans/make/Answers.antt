use Rattle.std.proofs.Common.{ℕ, ◌+◌, length, Some, ap, sym, ◌∙◌}
use Rattle.std.specs.Arc.{arc_value}
use Rattle.chr_rule.specs.Rules.{Simpagation}
use Rattle.chr_plan.proofs.Made.{rule_here, plans_end}
use Rattle.chr_plan.proofs.Rows.{rows_next}
use Rattle.chr_plan.proofs.plans.Plans.make.Goals as goal

pub loop-rule-preserved : goal.loop-rule-preserved
loop-rule-preserved g c =
    let next =
    rows_next (λ o. o.items) c.args.program.now c.loop-rule.rule-index c.heads.result c.loop-rule.counts.items c.push.new.self.items c.loop-rule.orders.items c.add_rule.new.orders.items c.deref.result.now c.loop-rule.invariant.rows c.loop-rule.invariant.plans
    (rule_here arc_value c.rules-rule-items.result.now c.args.program.now c.loop-rule.rule-index c.rule-item.result c.rules-rule-items.ensures.rules c.loop-rule-test.true c.rule-item.is ∙ ap (λ r. Some r) (sym c.deref.ensures))
    c.in_ok-add_rule.ensures (c.heads.ensures.count ∙ ap (λ (r : Simpagation ℕ). length r.kept + length r.removed) (c.deref-in-loop-rule.ensures ∙ sym c.deref.ensures)) c.heads.ensures.few c.in_ok-push.ensures.items in record { rows = next.0; plans = next.1 }

pub returns : goal.returns
returns g c = plans_end arc_value c.rules-rule-items.result.now c.args.program.now c.loop-rule.rule-index _ c.rules-rule-items.ensures.rules c.loop-rule-test.false c.loop-rule.auto.rule-index-end c.loop-rule.invariant.plans
