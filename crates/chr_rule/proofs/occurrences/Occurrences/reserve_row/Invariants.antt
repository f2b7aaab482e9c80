use Rattle.std.proofs.Common.{◌≡◌, ◌-◌, length, map, vec_len, vec_capacity}
use Rattle.chr_rule.specs.Index.{KeepsRows}
use Rattle.chr_rule.proofs.occurrences.Occurrences.reserve_row.Given as goal

abbrev pub invariant-loop : goal.invariant-loop
invariant-loop g l = record {
  keeps : KeepsRows l.fn.self (record { rows = map (λ row. row.items) l.self-inside.rows.items; rooms = map (λ row. vec_capacity row - vec_len row) l.self-inside.rows.items });
  count : length l.self-inside.rows.items ≡ l.counter;
}
