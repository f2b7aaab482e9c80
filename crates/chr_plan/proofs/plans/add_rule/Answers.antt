use Rattle.chr_plan.proofs.Rows.{row_more}
use Rattle.chr_plan.proofs.plans.add_rule.Goals as goal

pub loop-at-preserved : goal.loop-at-preserved
loop-at-preserved g c = row_more (λ o. o.items) c.args.rule.now c.loop-at.at c.args.orders.now.items c.loop-at.orders.items c.push.new.self.items c.order_of.result c.in_ok-push.ensures.items c.loop-at.invariant c.order_of.ensures
