use Rattle.std.proofs.Common.{◌-◌, ◌≤◌, length}
use Rattle.chr_search.proofs.at_heads.resize.Given as goal

abbrev pub invariant-loop-labels : goal.invariant-loop-labels
invariant-loop-labels l = length l.labels.items ≤ l.count

abbrev pub decreases-loop-labels : goal.decreases-loop-labels
decreases-loop-labels l = l.count - length l.labels.items
