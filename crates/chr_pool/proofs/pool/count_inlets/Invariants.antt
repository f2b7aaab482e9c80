use Rattle.std.proofs.Common.{◌≡◌, ◌*◌, ◌^◌, ◌≤◌, take}
use Rattle.std.specs.List.{sum_by}
use Rattle.chr_pool.proofs.pool.count_inlets.Given as goal

abbrev pub invariant-loop-inlet : goal.invariant-loop-inlet
invariant-loop-inlet g l =
    (l.pushed ≡ sum_by (λ i. i.pushed) (take l.inlet-index l.inlets.items))
    × (l.pushed ≤ l.inlet-index * 2 ^ 58)
