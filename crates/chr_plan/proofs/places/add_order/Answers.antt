use Rattle.chr_rule.specs.Rules.{heads_of, head_in}
use Rattle.chr_plan.specs.Places.{key_place}
use Rattle.chr_plan.proofs.Once.{added_next}
use Rattle.chr_plan.proofs.places.add_order.Goals as goal

pub loop-step-preserved : goal.loop-step-preserved
loop-step-preserved g c = added_next (λ s. key_place (head_in (heads_of c.args.rule.now) s.head) s.key) c.args.order.now c.loop-step.step-index _ c.args.places.now.items c.loop-step.places.items c.add_key.new.places.items c.loop-step-test.true c.loop-step.invariant c.in_ok-add_key.ensures
