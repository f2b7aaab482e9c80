use Rattle.std.proofs.Common.{◌≡◌, ◌+◌, ◌≤◌, length, vec_capacity}
use Rattle.std.specs.Vec.Iter.{into_iter_items, into_iter_len}
use Rattle.chr_crew.proofs.rack.Rack.new.Given as goal

abbrev pub invariant-loop-seat : goal.invariant-loop-seat
invariant-loop-seat g l =
    let left = into_iter_items l.seat-iterator in
    (goal.iterator-loop-seat g).can_next l.seat-iterator
    × (goal.iterator-loop-seat g).is_finite l.seat-iterator
    × (into_iter_len l.seat-iterator ≡ length left)
    × (into_iter_len l.inlets ≡ length left)
    × (length l.places.items + length left ≡ 16)
    × (16 ≤ vec_capacity l.places)
