use Rattle.std.proofs.Common.{◌≡◌, ℕ, ◌+◌, ◌-◌, ◌≤◌, length}
use Rattle.chr_store.specs.Rows.{most_rows, row_at}
use Rattle.chr_store.proofs.rows.make_row.Given as goal

abbrev pub invariant-loop-rows : goal.invariant-loop-rows
invariant-loop-rows g l = record {
  same : (i : ℕ) → row_at l.rows.items i ≡ row_at l.initial.rows.items i;
  few : length l.rows.items ≤ most_rows;
}

abbrev pub decreases-loop-rows : goal.decreases-loop-rows
decreases-loop-rows g l = l.row + 1 - l.rows.len
