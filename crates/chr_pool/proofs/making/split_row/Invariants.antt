use Rattle.std.proofs.Common.{◌≡◌, ◌+◌, ◌≤◌, ◌<◌, ℕ, length, map, All, take, get_or}
use Rattle.chr_pool.specs.declared.new_deque.NewDeque.{NewDeque}
use Rattle.chr_pool.specs.Handles.{handle_deque}
use Rattle.chr_pool.specs.NewDeques.{new_deque, new_capacity, IsNewHandle}
use Rattle.chr_pool.proofs.making.split_row.Given as goal

abbrev pub invariant-loop-i : goal.invariant-loop-i
invariant-loop-i g l =
    (map new_deque l.deques.items ≡ map new_deque l.initial.deques.items)
    × (length l.deques.items ≡ length l.initial.deques.items)
    × (map handle_deque l.row.items ≡ take l.i (map new_deque l.initial.deques.items))
    × All IsNewHandle l.row.items
    × ((k : ℕ) → k < l.i → (d : NewDeque g.row.T.Denot) → (get_or l.deques.items k d).parts + 1 ≡ l.parts)
    × ((k : ℕ) → l.i ≤ k → k < length l.deques.items → (d : NewDeque g.row.T.Denot) → (get_or l.deques.items k d).parts ≡ l.parts)
    × (map new_capacity l.deques.items ≡ map new_capacity l.initial.deques.items)
