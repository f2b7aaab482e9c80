use Rattle.std.proofs.Common.{◌≡◌}
use Rattle.chr_pool.specs.Handles.{handle_shape, handle_account}
use Rattle.chr_pool.proofs.deque_handle.DequeHandle.take.Given as goal

abbrev pub invariant-loop : goal.invariant-loop
invariant-loop g l =
    (handle_shape l.self ≡ handle_shape l.initial.self) × (handle_account l.self ≡ handle_account l.initial.self)
