use Rattle.std.proofs.Common.{◌≡◌, ◌+◌, ◌++◌, [], length, map, All}
use Rattle.std.specs.List.{range_with_len}
use Rattle.std.specs.Vec.Iter.{into_iter_items, into_iter_len}
use Rattle.chr_pool.specs.Handles.{queue_account, queue_shape}
use Rattle.chr_pool.specs.Hands.{hand_deque, hand_capacity, hand_number}
use Rattle.chr_pool.specs.NewDeques.{new_deque, new_capacity, IsRow, IsNewHand}
use Rattle.chr_pool.proofs.making.all_hands.Given as goal

abbrev pub invariant-loop-deque : goal.invariant-loop-deque
invariant-loop-deque g l =
    let all = into_iter_items l.initial.deque-iterator in
    let left = into_iter_items l.deque-iterator in
    (into_iter_len l.deque-iterator ≡ length left)
    × (map hand_deque l.made.items ++ map new_deque left ≡ map new_deque all)
    × All (IsNewHand (map new_deque all) (queue_shape l.initial.first).0 (length all)) l.made.items
    × All (λ d. d.parts + length all ≡ 64) left
    × All (IsRow (map new_deque all)) l.rows.items
    × (length l.rows.items ≡ length left)
    × (map hand_number l.made.items ++ range_with_len l.number (length left) ≡ range_with_len 0 (length all))
    × (l.number + length left ≡ length all)
    × ((queue_shape l.first).0 ≡ (queue_shape l.initial.first).0)
    × ((queue_account l.first).parts + l.number ≡ 64)
    × ((queue_account l.first).pushed ≡ [])
    × ((queue_account l.first).taken ≡ [])
    × (map hand_capacity l.made.items ++ map new_capacity left ≡ map new_capacity all)
