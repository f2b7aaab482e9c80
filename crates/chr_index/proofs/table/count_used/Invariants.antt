use Rattle.std.proofs.Common.{◌≤◌}
use Rattle.chr_index.proofs.table.count_used.Given as goal

abbrev pub invariant-loop-entry : goal.invariant-loop-entry
invariant-loop-entry l = l.used ≤ l.entry-index
