use Rattle.std.proofs.Common.{length, ap, map, ◌∙◌, arith, inl, inr}
use Rattle.std.proofs.lemmas.Bool.{cases_lt}
use Rattle.std.specs.Arc.{arc_value}
use Rattle.chr_plan.proofs.Once.{places_next, places_end}
use Rattle.chr_plan.proofs.Rows.{plans_length}
use Rattle.chr_plan.proofs.plans.Plans.places.Goals as goal

pub orders_at-requires : goal.orders_at-requires
orders_at-requires g c = omega (arith, c.loop-at-test.true, c.min-count.ensures, c.len.ensures, c.self.inside.counts.ok.0, plans_length _ _ _ c.self.view_is)

pub loop-at-preserved : goal.loop-at-preserved
loop-at-preserved g c = places_next arc_value c.rules-rules.result.now c.args.program.now c.args.self.now c.loop-at.at c.index-rules-at.result c.deref.result.now (map (λ order. order.items) c.orders_at.result.now) c.loop-at.places.items c.add_orders.new.places.items c.rules-rules.ensures.rules (omega (arith, c.loop-at-test.true, c.min-count.ensures, c.len.ensures)) (c.deref.ensures ∙ ap arc_value c.index-rules-at.is) c.orders_at.ensures c.loop-at.invariant c.in_ok-add_orders.ensures

pub returns : goal.returns
returns g c = places_end arc_value c.rules-rules.result.now c.args.program.now c.args.self.now c.loop-at.at c.loop-at.places.items c.rules-rules.ensures.rules (elim (cases_lt (length c.rules-rules.result.now) (length c.self.inside.counts.items)) [ inl l ↦ inl (omega (arith, c.loop-at-test.false, c.min-count.ensures, c.len.ensures, c.self.inside.counts.ok.0)) | inr l ↦ inr (omega (arith, c.loop-at-test.false, c.min-count.ensures, c.len.ensures, c.self.inside.counts.ok.0, plans_length _ _ _ c.self.view_is)) ]) c.loop-at.invariant
