use Rattle.std.proofs.Common.{◌≡◌, length, map, All}
use Rattle.std.specs.Vec.Iter.{into_iter_items, into_iter_len}
use Rattle.chr_pool.specs.Accounts.{all_absorbed}
use Rattle.chr_pool.specs.OwnDeques.{own_account, own_deque}
use Rattle.chr_pool.specs.Hands.{row_accounts, row_deques}
use Rattle.chr_pool.proofs.settling.absorb_rows.Given as goal

abbrev pub invariant-loop-row : goal.invariant-loop-row
invariant-loop-row g l =
    (into_iter_len l.row-iterator ≡ length (into_iter_items l.row-iterator))
    × (map own_deque l.owns.items ≡ map own_deque l.initial.owns.items)
    × All (λ r. row_deques r ≡ map own_deque l.owns.items) (into_iter_items l.row-iterator)
    × (all_absorbed (map own_account l.owns.items) (map row_accounts (into_iter_items l.row-iterator)) ≡ all_absorbed (map own_account l.initial.owns.items) (map row_accounts (into_iter_items l.initial.row-iterator)))
