use Rattle.std.proofs.Common.{◌+◌, ◌≤◌, false, refl, ap, sym, subst, ◌∙◌, slice_index_or, length, Some, arith}
use Rattle.std.proofs.lemmas.List.{length-append}
use Rattle.chr_plan.specs.Orders.{heads_of}
use Rattle.chr_plan.specs.declared.order.Step.{Step}
use Rattle.chr_plan.proofs.Next.{Passed, same_key, same_fresh, passed_found, passed_named, passed_open, key_none}
use Rattle.chr_plan.proofs.order.next_step.Goals as goal
use Rattle.chr_plan.proofs.order.next_step.Goals.{then-not-is_named+else-is_some, else-not-is_named}

pub returns-then-is_some-clause-step : goal.returns-then-is_some-clause-step
returns-then-is_some-clause-step g c =
    let heads = heads_of c.args.rule.now in
    let key = c.key-key.ensures ∙ same_key heads c.args.before.now (λ x. slice_index_or c.args.bound.now x false) (c.loop-at.at + 1) c.requires in
    let fresh = c.is_fresh-fresh.ensures ∙ same_fresh heads c.args.before.now (λ x. slice_index_or c.args.bound.now x false) (c.loop-at.at + 1) c.key-key.result c.requires in
    let to : c.loop-at.at + 1 ≤ length heads = omega (arith, length-append c.args.rule.now.kept c.args.rule.now.removed) in
    passed_found heads c.args.before.now c.loop-at.at c.loop-at.first (record { head = c.loop-at.at + 1; key = c.key-key.result; fresh = c.is_fresh-fresh.result }) refl
    (record { from = omega arith; to = to; unnamed = sym c.is_named.ensures ∙ c.if-not-is_named.true }) key fresh (sym c.is_some.ensures ∙ c.if-is_some.true) c.loop-at.invariant

pub loop-at-preserved : goal.loop-at-preserved
loop-at-preserved g c =
    let heads = heads_of c.args.rule.now in
    elim c.if-not-is_named.branch [
      | then-not-is_named+else-is_some w ↦
          let key = w.key-key.ensures ∙ same_key heads c.args.before.now (λ x. slice_index_or c.args.bound.now x false) (c.loop-at.at + 1) c.requires in
          let fresh = w.is_fresh-fresh.ensures ∙ same_fresh heads c.args.before.now (λ x. slice_index_or c.args.bound.now x false) (c.loop-at.at + 1) w.key-key.result c.requires in
          let to : c.loop-at.at + 1 ≤ length heads = omega (arith, length-append c.args.rule.now.kept c.args.rule.now.removed) in
          subst (Passed heads c.args.before.now (c.loop-at.at + 1)) (sym (w.first-is ∙ ap (λ (s : Step). Some s) w.unwrap_or.ensures))
          (passed_open heads c.args.before.now c.loop-at.at c.loop-at.first (record { head = c.loop-at.at + 1; key = w.key-key.result; fresh = w.is_fresh-fresh.result }) refl
          (record { from = omega arith; to = to; unnamed = sym c.is_named.ensures ∙ w.if-not-is_named.true }) key fresh (key_none w.key-key.result (sym w.is_some.ensures ∙ w.if-is_some.false)) c.loop-at.invariant)
      | else-not-is_named w ↦
          subst (Passed heads c.args.before.now (c.loop-at.at + 1)) (sym w.first-is)
          (passed_named heads c.args.before.now c.loop-at.at c.loop-at.first (sym c.is_named.ensures ∙ w.if-not-is_named.false) c.loop-at.invariant)
    ]
