use Rattle.std.proofs.Common.{◌≡◌, ◌+◌, ◌≤◌, ◌++◌, length, map, vec_capacity}
use Rattle.std.specs.Vec.Iter.{into_iter_items, into_iter_len}
use Rattle.chr_pool.specs.Inlets.{inlet_queue}
use Rattle.chr_pool.proofs.pool.add_queue_handles.Given as goal

abbrev pub invariant-loop-inlet : goal.invariant-loop-inlet
invariant-loop-inlet g l =
    (into_iter_len l.inlet-iterator ≡ length (into_iter_items l.inlet-iterator))
    × (l.queue_handles.items ++ map inlet_queue (into_iter_items l.inlet-iterator) ≡ l.initial.queue_handles.items ++ map inlet_queue (into_iter_items l.initial.inlet-iterator))
    × (length l.queue_handles.items + length (into_iter_items l.inlet-iterator) ≤ vec_capacity l.queue_handles)
