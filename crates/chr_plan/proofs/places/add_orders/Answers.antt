use Rattle.std.proofs.Common.{List, ap, sym, subst, ◌∙◌, ◌++◌}
use Rattle.chr_rule.specs.Rules.{heads_of}
use Rattle.chr_plan.specs.declared.order.Step.{Step}
use Rattle.chr_plan.specs.Places.{Place, order_places, once}
use Rattle.chr_plan.proofs.Once.{Added, added_next, each_all, each_map}
use Rattle.chr_plan.proofs.places.add_orders.Goals as goal

pub loop-order-preserved : goal.loop-order-preserved
loop-order-preserved g c = added_next (λ o. order_places (heads_of c.args.rule.now) o.items) c.args.orders.now c.loop-order.order-index c.order-item.result c.args.places.now.items c.loop-order.places.items c.add_order.new.places.items c.loop-order-test.true c.loop-order.invariant
    (subst (λ (z : List Step). Added (order_places (heads_of c.args.rule.now) z) c.loop-order.places.items c.add_order.new.places.items) (c.as_slice.ensures.value ∙ ap (λ o. o.items) c.order-item.is) c.in_ok-add_order.ensures)

pub returns : goal.returns
returns g c = λ met e. c.loop-order.invariant met e ∙ ap (λ (z : List Place). once (met ++ z)) (each_all (λ o. order_places (heads_of c.args.rule.now) o.items) c.args.orders.now c.loop-order.order-index c.loop-order-test.false ∙ sym (each_map (order_places (heads_of c.args.rule.now)) (λ o. o.items) c.args.orders.now))
