use Rattle.std.proofs.Common.{◌-◌, ◌<◌, length, arith, vec_len, vec_capacity}
use Rattle.chr_rule.proofs.Index.{keeps_more, keeps_reserved, on_ok_from, order_kept, room_there}
use Rattle.chr_rule.proofs.occurrences.Occurrences.reserve_row.Goals as goal

pub invariant_of-self : goal.invariant_of-self
invariant_of-self g c = rw (c.in_err-push.ensures.items) (order_kept _ _ (rw (← c.self.view_is) at c.loop.invariant.keeps.rows) c.self.invariant)

pub returns-in_err-push-clause-keeps : goal.returns-in_err-push-clause-keeps
returns-in_err-push-clause-keeps g c = rw (c.in_err-push.ensures.items) c.loop.invariant.keeps

pub loop-preserved : goal.loop-preserved
loop-preserved g c = record {
  keeps = keeps_more (λ row. row.items) (λ row. vec_capacity row - vec_len row) c.args.self.now c.loop.self-inside.rows.items c.push.new.self.items c.new.result c.loop.invariant.keeps c.new.ensures.items c.in_ok-push.ensures.items;
  count = omega (arith, c.loop.invariant.count, c.in_ok-push.ensures.len);
}

pub invariant_of-self-2 : goal.invariant_of-self-2
invariant_of-self-2 g c =
    let within : c.args.name.number < length c.loop.self-inside.rows.items = omega (arith, c.loop.invariant.count, c.loop-test.false) in
    let kept = keeps_reserved (λ row. row.items) (λ row. vec_capacity row - vec_len row) c.args.self.now c.loop.self-inside.rows.items c.args.name.number c.index_mut.result.now c.reserve.new.self c.loop.invariant.keeps within c.index_mut.ensures.value c.reserve.ensures.items (omega (arith, c.reserve.ensures.len, c.reserve.ensures.capacity)) in
    order_kept _ _ (rw (← c.self.view_is) at kept.rows) c.self.invariant

pub returns-clause-keeps : goal.returns-clause-keeps
returns-clause-keeps g c =
    let within : c.args.name.number < length c.loop.self-inside.rows.items = omega (arith, c.loop.invariant.count, c.loop-test.false) in
    keeps_reserved (λ row. row.items) (λ row. vec_capacity row - vec_len row) c.args.self.now c.loop.self-inside.rows.items c.args.name.number c.index_mut.result.now c.reserve.new.self c.loop.invariant.keeps within c.index_mut.ensures.value c.reserve.ensures.items (omega (arith, c.reserve.ensures.len, c.reserve.ensures.capacity))

pub returns-clause-room : goal.returns-clause-room
returns-clause-room g c =
    let within : c.args.name.number < length c.loop.self-inside.rows.items = omega (arith, c.loop.invariant.count, c.loop-test.false) in
    on_ok_from c.reserve.result c.reserve.ensures.ok (λ room. room_there (λ row. row.items) (λ row. vec_capacity row - vec_len row) c.loop.self-inside.rows.items c.args.name.number 6 c.reserve.new.self within (omega (arith, room)))
