use Rattle.std.specs.Prelude.{◌≡◌, ◌-◌, ◌++◌, length}
use Rattle.chr_shared.proofs.store_lines.copy_constraints.Given as goal

abbrev pub invariant-loop-left : goal.invariant-loop-left
invariant-loop-left g l = l.constraints.items ++ l.left ≡ l.fn.store.entries

abbrev pub decreases-loop-left : goal.decreases-loop-left
decreases-loop-left g l = l.count - length l.constraints.items
