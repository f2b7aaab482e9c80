use Rattle.std.proofs.Common.{◌≡◌, ◌+◌, ◌≤◌, ◌++◌, length, map, vec_capacity}
use Rattle.std.specs.Vec.Iter.{into_iter_items, into_iter_len}
use Rattle.chr_pool.specs.OwnDeques.{own_account, own_deque}
use Rattle.chr_pool.specs.Hands.{hand_account, hand_deque, hand_handles, hand_queue}
use Rattle.chr_pool.proofs.settling.take_apart.Given as goal

abbrev pub invariant-loop-hand : goal.invariant-loop-hand
invariant-loop-hand g l =
    (into_iter_len l.hand-iterator ≡ length (into_iter_items l.hand-iterator))
    × (map own_account l.owns.items ++ map hand_account (into_iter_items l.hand-iterator) ≡ map hand_account (into_iter_items l.initial.hand-iterator))
    × (map own_deque l.owns.items ++ map hand_deque (into_iter_items l.hand-iterator) ≡ map hand_deque (into_iter_items l.initial.hand-iterator))
    × (l.rows.items ++ map hand_handles (into_iter_items l.hand-iterator) ≡ map hand_handles (into_iter_items l.initial.hand-iterator))
    × (l.queue_handles.items ++ map hand_queue (into_iter_items l.hand-iterator) ≡ map hand_queue (into_iter_items l.initial.hand-iterator))
    × (length l.owns.items + length (into_iter_items l.hand-iterator) ≤ vec_capacity l.owns)
    × (length l.rows.items + length (into_iter_items l.hand-iterator) ≤ vec_capacity l.rows)
    × (length l.queue_handles.items + length (into_iter_items l.hand-iterator) ≤ vec_capacity l.queue_handles)
    × (vec_capacity l.queue_handles ≡ vec_capacity l.initial.queue_handles)
