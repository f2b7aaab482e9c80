use Rattle.std.proofs.Common.{◌≡◌, vec_capacity}
use Rattle.chr_pool.specs.Handles.{queue_shape, queue_account}
use Rattle.chr_pool.proofs.Settles.{Turn}
use Rattle.chr_pool.proofs.queue_handle.QueueHandle.drain.Given as goal

abbrev pub invariant-loop : goal.invariant-loop
invariant-loop g l =
    (queue_shape l.self ≡ queue_shape l.initial.self)
    × ((queue_account l.self).pushed ≡ (queue_account l.initial.self).pushed)
    × (vec_capacity l.left ≡ vec_capacity l.initial.left)
    × Turn g.T.Numbered.number l.initial.left.items (queue_account l.initial.self) l.left.items (queue_account l.self)
