use Rattle.std.proofs.Common.{◌≡◌, ℕ, ◌+◌, ◌<◌, ◌≤◌, ◌||◌, ◌++◌, ◌∷◌, [], Bool, false, ap, ap₂, sym, subst, ◌∙◌, List, None, length, slice_index_or, arith}
use Rattle.chr_plan.specs.Orders.{heads_of, head_in, binds, IsNext, first_step}
use Rattle.chr_plan.specs.declared.order.Step.{Step}
use Rattle.chr_plan.proofs.Planning.{Planning, planning_start, planning_push, planning_room}
use Rattle.chr_plan.proofs.Next.{same_fresh}
use Rattle.chr_plan.proofs.order.plan_of.Goals as goal

pub loop-step-init : goal.loop-step-init
loop-step-init g c =
    let heads = heads_of c.args.rule.now in
    let bound = λ (x : ℕ). slice_index_or c.bind.new.bound x false in
    let fresh = c.is_fresh-fresh.ensures ∙ same_fresh heads [] (λ x. slice_index_or c.nothing_bound-bound.result x false) c.args.head None c.nothing_bound-bound.ensures in
    let first : c.push.new.self.items ≡ first_step heads c.args.head ∷ [] =
    c.push.ensures.items ∙ ap₂ (λ (z : List Step) (b : Bool). z ++ record { head = c.args.head; key = None; fresh = b } ∷ []) c.new-order.ensures fresh in
    subst (Planning heads c.args.head bound) (sym first)
    (planning_start heads c.args.head bound c.requires.from c.requires.to (λ x. c.bind.ensures x ∙ ap (λ b. binds (head_in heads c.args.head) x || b) (c.nothing_bound-bound.ensures x)))

pub push-requires-in-Some : goal.push-requires-in-Some
push-requires-in-Some g c =
    let heads = heads_of c.args.rule.now in
    let next = subst (λ (z : List Step). IsNext heads z c.in-Some.step) c.as_slice.ensures.value c.in-Some.ensures.step in
    let room = planning_room heads c.args.head _ c.loop-step.order.items c.in-Some.step c.loop-step.invariant next in
    let few : length heads ≤ 6 = c.next_step.ensures.few in
    let fits : length c.loop-step.order.items < 6 = omega (arith, room, few) in
    (omega arith, fits)

pub loop-step-smaller : goal.loop-step-smaller
loop-step-smaller g c =
    let heads = heads_of c.args.rule.now in
    let next = subst (λ (z : List Step). IsNext heads z c.in-Some.step) c.as_slice.ensures.value c.in-Some.ensures.step in
    let room = planning_room heads c.args.head _ c.loop-step.order.items c.in-Some.step c.loop-step.invariant next in
    let more : length c.push-in-Some.new.self.items ≡ length c.loop-step.order.items + 1 = c.push-in-Some.ensures.len in
    omega (arith, room, more)

pub loop-step-preserved : goal.loop-step-preserved
loop-step-preserved g c =
    let heads = heads_of c.args.rule.now in
    let bound = λ (x : ℕ). slice_index_or c.bind-in-Some.new.bound x false in
    let next = subst (λ (z : List Step). IsNext heads z c.in-Some.step) c.as_slice.ensures.value c.in-Some.ensures.step in
    subst (Planning heads c.args.head bound) (sym c.push-in-Some.ensures.items)
    (planning_push heads c.args.head _ bound c.loop-step.order.items c.in-Some.step c.loop-step.invariant next c.bind-in-Some.ensures)
