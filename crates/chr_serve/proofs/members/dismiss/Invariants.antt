use Rattle.std.proofs.Common.{◌≡◌, ◌+◌, ◌≤◌, length, vec_len, vec_capacity}
use Rattle.std.specs.Vec.Iter.{into_iter_items, into_iter_len}
use Rattle.chr_serve.proofs.members.dismiss.Given as goal

abbrev pub invariant-loop-member : goal.invariant-loop-member
invariant-loop-member g l =
    let left = into_iter_items l.member-iterator in
    (goal.iterator-loop-member g).can_next l.member-iterator
    × (goal.iterator-loop-member g).is_finite l.member-iterator
    × (into_iter_len l.member-iterator ≡ length left)
    × (vec_len l.seats + length left ≡ vec_len l.fn.members)
    × (vec_capacity l.seats ≡ vec_capacity l.fn.room)
