use Rattle.std.proofs.Common.{arith}
use Rattle.chr_plan.proofs.Rows.{order_within, order_read}
use Rattle.chr_plan.proofs.plans.Plans.plan_at.Goals as goal

pub index-requires : goal.index-requires
index-requires g c =
    let w = order_within (λ o. o.items) c.self.inside.counts.items c.self.inside.orders.items c.args.self.now c.self.view_is c.args.rule c.args.head c.requires in omega (arith, w, c.self.inside.orders.ok.0, c.from.ensures, c.from-2.ensures)

pub returns : goal.returns
returns g c =
    let w = order_within (λ o. o.items) c.self.inside.counts.items c.self.inside.orders.items c.args.self.now c.self.view_is c.args.rule c.args.head c.requires in
    order_read (λ o. o.items) c.self.inside.counts.items c.self.inside.orders.items c.args.self.now c.self.view_is c.args.rule c.args.head c.requires _ c.index.result.now c.as_slice.result.now (omega (arith, w, c.from.ensures, c.from-2.ensures)) c.index.ensures c.as_slice.ensures.value
