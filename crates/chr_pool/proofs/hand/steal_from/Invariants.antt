use Rattle.std.proofs.Common.{◌≡◌, length, map}
use Rattle.chr_pool.specs.Handles.{stolen, handle_shape}
use Rattle.chr_pool.proofs.hand.steal_from.Given as goal

abbrev pub invariant-loop-i : goal.invariant-loop-i
invariant-loop-i g l = (map handle_shape l.handles.items ≡ map handle_shape l.initial.handles.items) × (map stolen l.handles.items ≡ map stolen l.initial.handles.items) × (length l.handles.items ≡ length l.initial.handles.items)
