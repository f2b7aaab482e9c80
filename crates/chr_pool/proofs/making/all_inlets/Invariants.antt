use Rattle.std.proofs.Common.{◌≡◌, ◌+◌, [], length, map, All}
use Rattle.std.specs.List.{sum_by, flat_map}
use Rattle.chr_pool.specs.Handles.{queue_account, queue_shape}
use Rattle.chr_pool.specs.Inlets.{inlet_id, inlet_pushed}
use Rattle.chr_pool.proofs.making.all_inlets.Given as goal

abbrev pub invariant-loop : goal.invariant-loop
invariant-loop g l =
    (length l.inlets.items + 1 ≡ l.counter)
    × ((queue_shape l.first).0 ≡ (queue_shape l.initial.first).0)
    × ((queue_account l.first).parts + length l.inlets.items ≡ (queue_account l.initial.first).parts)
    × ((queue_account l.first).pushed ≡ [])
    × ((queue_account l.first).taken ≡ [])
    × All (λ q. q.0 ≡ (queue_shape l.initial.first).0) (map inlet_id l.inlets.items)
    × (sum_by (λ q. q.1) (map inlet_id l.inlets.items) ≡ length l.inlets.items)
    × (flat_map inlet_pushed l.inlets.items ≡ [])
