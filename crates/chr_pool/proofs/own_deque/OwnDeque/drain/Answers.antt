use Rattle.std.proofs.Common.{◌+◌, ◌≤◌, length, vec_capacity, arith}
use Rattle.crossbeam_deque.specs.Handles.{worker_view}
use Rattle.chr_pool.specs.OwnDeques.{own_account}
use Rattle.chr_pool.proofs.Settles.{room}
use Rattle.chr_pool.proofs.Rules.{takes_left, finds}
use Rattle.chr_pool.proofs.own_deque.OwnDeque.drain.Goals as goal

pub pop_as-requires-clause-fifo : goal.pop_as-requires-clause-fifo
pop_as-requires-clause-fifo g c = λ _. takes_left g.T.Numbered.number _ _ c.loop.self.some_part

pub pop_as-requires-clause-empty : goal.pop_as-requires-clause-empty
pop_as-requires-clause-empty g c = finds g.T.Numbered.number _ _

pub push_reserved-requires : goal.push_reserved-requires
push_reserved-requires g c =
    let v = own_account c.args.self.now in
    let u = own_account c.loop.self in
    let w = worker_view c.pop_as.new.self in
    let was = c.args.left.now in
    let wide : length was.items + length v.pushed ≤ vec_capacity was + length v.taken = omega (arith, c.requires.room, was.ok.0) in
    let r = room g.T.Numbered.number was.items v c.loop.left.items u w (g.T.Numbered.number c.in-Some-pop_as.task) (vec_capacity was) c.loop.invariant.3 c.in-Some-pop_as.ensures.rule.0 c.loop.invariant.1 (c.in-Some-pop_as.ensures.rule.1 c.loop.invariant.0) wide in
    omega (arith, r, c.loop.invariant.2, c.loop.left.ok.0)
