use Rattle.std.proofs.Common.{◌≡◌, ◌+◌, ◌≤◌, ◌++◌, length, map, vec_capacity}
use Rattle.chr_crew.proofs.worker.part_all.Given as goal

abbrev pub invariant-loop-workers : goal.invariant-loop-workers
invariant-loop-workers g l =
    (l.hands.items ++ map (λ w. w.hand) l.workers.items ≡ map (λ w. w.hand) l.initial.workers.items)
    × (l.seats.items ++ map (λ w. w.seat) l.workers.items ≡ l.initial.seats.items ++ map (λ w. w.seat) l.initial.workers.items)
    × (length l.hands.items + length l.workers.items ≤ vec_capacity l.hands)
    × (length l.seats.items + length l.workers.items ≤ vec_capacity l.seats)

abbrev pub decreases-loop-workers : goal.decreases-loop-workers
decreases-loop-workers g l = length l.workers.items
