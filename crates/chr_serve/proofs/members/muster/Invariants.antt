use Rattle.std.proofs.Common.{◌≡◌, ◌+◌, ◌≤◌, length, vec_len, vec_capacity}
use Rattle.std.specs.Vec.Iter.{into_iter_items, into_iter_len}
use Rattle.chr_serve.proofs.members.muster.Given as goal

abbrev pub invariant-loop-hand : goal.invariant-loop-hand
invariant-loop-hand g l =
    let left = into_iter_items l.hand-iterator in
    (goal.iterator-loop-hand g).can_next l.hand-iterator
    × (goal.iterator-loop-hand g).is_finite l.hand-iterator
    × (into_iter_len l.hand-iterator ≡ length left)
    × (vec_len l.members + length left ≡ length l.fn.hands.items)
    × (vec_len l.members + vec_len l.workers ≡ vec_len l.fn.workers)
    × (length left ≤ vec_len l.workers)
    × (vec_capacity l.members ≡ vec_capacity l.fn.room)

abbrev pub invariant-loop-seat : goal.invariant-loop-seat
invariant-loop-seat g l =
    let left = into_iter_items l.seat-iterator in
    (goal.iterator-loop-seat g).can_next l.seat-iterator
    × (goal.iterator-loop-seat g).is_finite l.seat-iterator
    × (into_iter_len l.seat-iterator ≡ length left)
    × (length (into_iter_items l.inlets) ≡ length left)
    × (length (into_iter_items l.memory) ≡ length left)
    × (vec_len l.members + length left ≡ length l.fn.hands.items + vec_len l.fn.inlets)
    × (vec_len l.members + vec_len l.workers + length left ≡ vec_len l.fn.workers + vec_len l.fn.sessions)
    × (vec_capacity l.members ≡ vec_capacity l.fn.room)
