use Rattle.std.proofs.Common.{◌≡◌, length, map, drop}
use Rattle.std.specs.Vec.Iter.{into_iter_items, into_iter_len}
use Rattle.chr_pool.specs.Accounts.{absorbed}
use Rattle.chr_pool.specs.Handles.{handle_account, handle_deque}
use Rattle.chr_pool.specs.OwnDeques.{own_account, own_deque}
use Rattle.chr_pool.proofs.Settles.{absorbed_at}
use Rattle.chr_pool.proofs.settling.absorb_row.Given as goal

abbrev pub invariant-loop-deque_handle : goal.invariant-loop-deque_handle
invariant-loop-deque_handle g l =
    (into_iter_len l.deque_handle-iterator ≡ length (into_iter_items l.deque_handle-iterator))
    × (map own_deque l.owns.items ≡ map own_deque l.initial.owns.items)
    × (map handle_deque (into_iter_items l.deque_handle-iterator) ≡ drop l.i (map own_deque l.owns.items))
    × (absorbed_at l.i (map own_account l.owns.items) (map handle_account (into_iter_items l.deque_handle-iterator)) ≡ absorbed (map own_account l.initial.owns.items) (map handle_account (into_iter_items l.initial.deque_handle-iterator)))
