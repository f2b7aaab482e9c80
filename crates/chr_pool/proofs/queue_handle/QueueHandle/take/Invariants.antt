use Rattle.std.proofs.Common.{◌≡◌}
use Rattle.chr_pool.specs.Handles.{queue_shape, queue_account}
use Rattle.chr_pool.proofs.queue_handle.QueueHandle.take.Given as goal

abbrev pub invariant-loop : goal.invariant-loop
invariant-loop g l =
    (queue_shape l.self ≡ queue_shape l.initial.self) × (queue_account l.self ≡ queue_account l.initial.self)
