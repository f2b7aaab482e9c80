use Rattle.std.proofs.Common.{◌≡◌, ◌*◌, ◌^◌, ◌≤◌, take}
use Rattle.std.specs.List.{sum_by}
use Rattle.chr_pool.proofs.pool.count_hands.Given as goal

abbrev pub invariant-loop-hand : goal.invariant-loop-hand
invariant-loop-hand g l =
    (l.pushed ≡ sum_by (λ h. h.pushed) (take l.hand-index l.hands.items))
    × (l.taken ≡ sum_by (λ h. h.taken) (take l.hand-index l.hands.items))
    × (l.pushed ≤ l.hand-index * 2 ^ 58)
    × (l.taken ≤ l.hand-index * 2 ^ 58)
