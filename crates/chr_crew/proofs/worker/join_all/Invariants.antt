use Rattle.std.proofs.Common.{◌≡◌, ◌+◌, ◌≤◌, ◌++◌, length, map, vec_capacity}
use Rattle.chr_crew.proofs.worker.join_all.Given as goal

abbrev pub invariant-loop-hands : goal.invariant-loop-hands
invariant-loop-hands g l =
    (map (λ w. w.hand) l.workers.items ++ l.hands.items ≡ l.initial.hands.items)
    × (map (λ w. w.seat) l.workers.items ++ l.seats.items ≡ l.initial.seats.items)
    × (length l.workers.items + length l.hands.items ≡ length l.initial.hands.items)
    × (length l.initial.hands.items ≤ vec_capacity l.workers)
    × (length l.hands.items ≤ length l.seats.items)
    × (vec_capacity l.seats ≡ vec_capacity l.initial.seats)
    × (length l.initial.hands.items ≤ vec_capacity l.hands)

abbrev pub decreases-loop-hands : goal.decreases-loop-hands
decreases-loop-hands g l = length l.hands.items
