use Rattle.std.proofs.Common.{◌≡◌, length, map, All}
use Rattle.std.specs.Vec.Iter.{into_iter_items, into_iter_len}
use Rattle.chr_pool.specs.Accounts.{joined}
use Rattle.chr_pool.specs.Handles.{queue_account, queue_shape}
use Rattle.chr_pool.proofs.settling.absorb_queue_handles.Given as goal

abbrev pub invariant-loop-queue_handle : goal.invariant-loop-queue_handle
invariant-loop-queue_handle g l =
    (into_iter_len l.queue_handle-iterator ≡ length (into_iter_items l.queue_handle-iterator))
    × All (λ r. (queue_shape r).0 ≡ (queue_shape l.first).0) (into_iter_items l.queue_handle-iterator)
    × (joined (queue_account l.first) (map queue_account (into_iter_items l.queue_handle-iterator)) ≡ joined (queue_account l.initial.first) (map queue_account (into_iter_items l.initial.queue_handle-iterator)))
