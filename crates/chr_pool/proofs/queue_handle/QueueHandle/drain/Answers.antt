use Rattle.std.proofs.Common.{◌≡◌, ◌+◌, ◌≤◌, ℕ, length, vec_capacity, ap, ◌∙◌, arith}
use Rattle.crossbeam_queue.specs.SegTies.{SegId}
use Rattle.std.specs.declared.alloc.Global.{Global}
use Rattle.crossbeam_deque.specs.Injected.{injector_view}
use Rattle.chr_pool.specs.Handles.{queue_account}
use Rattle.chr_pool.proofs.Settles.{room}
use Rattle.chr_pool.proofs.Rules.{takes_left, finds}
use Rattle.chr_pool.proofs.queue_handle.QueueHandle.drain.Goals as goal

pub steal_as-requires-clause-rule : goal.steal_as-requires-clause-rule
steal_as-requires-clause-rule g c = (takes_left g.T.Numbered.number _ _ c.loop.self.some_part, finds g.T.Numbered.number _ _)

pub push_reserved-requires : goal.push_reserved-requires
push_reserved-requires g c =
    let v = queue_account c.args.self.now in
    let u = queue_account c.loop.self in
    let w = injector_view c.steal_as.new.pass in
    let was = c.args.left.now in
    let whole : u.parts ≡ 64 = ap (λ (s : SegId Global × ℕ). s.1) c.loop.invariant.0 ∙ c.requires.whole in
    let wide : length was.items + length v.pushed ≤ vec_capacity was + length v.taken = omega (arith, c.requires.room, was.ok.0) in
    let r = room g.T.Numbered.number was.items v c.loop.left.items u w (g.T.Numbered.number c.in-Success.task) (vec_capacity was) c.loop.invariant.3 c.in-Success.ensures.rule.0 c.loop.invariant.1 (c.in-Success.ensures.rule.1 whole) wide in
    omega (arith, r, c.loop.invariant.2, c.loop.left.ok.0)
