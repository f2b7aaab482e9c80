use Rattle.std.proofs.Common.{◌≡◌, ◌+◌, length, map, All}
use Rattle.chr_pool.specs.NewDeques.{new_deque, new_capacity, IsRow}
use Rattle.chr_pool.proofs.making.all_rows.Given as goal

abbrev pub invariant-loop : goal.invariant-loop
invariant-loop g l =
    (l.parts + l.counter ≡ 64)
    × (length l.rows.items ≡ l.counter)
    × (map new_deque l.deques.items ≡ map new_deque l.initial.deques.items)
    × All (λ d. d.parts ≡ l.parts) l.deques.items
    × All (IsRow (map new_deque l.initial.deques.items)) l.rows.items
    × (map new_capacity l.deques.items ≡ map new_capacity l.initial.deques.items)
