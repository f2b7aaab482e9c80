-- What clauses say of the deque of a hand that is back.
use Rattle.std.specs.Prelude.{List, ◌++◌, map, Vec}
use Rattle.std.specs.List.{flat_map}
use Rattle.atomic_blocks.specs.Lent.{RowsId}
use Rattle.std.specs.declared.alloc.Global.{Global}
use Rattle.crossbeam_deque.specs.Handles.{worker_view, worker_deque}
use Rattle.chr_pool.specs.declared.account.Account.{Account}
use Rattle.chr_pool.specs.declared.own_deque.OwnDeque.{OwnDeque}
use Rattle.chr_pool.specs.declared.deque_handle.DequeHandle.{DequeHandle}
use Rattle.chr_pool.specs.declared.queue_handle.QueueHandle.{QueueHandle}
use Rattle.chr_pool.specs.Handles.{queue_account}
use Rattle.chr_pool.specs.Hands.{row_accounts}

module _ {T : Type 0} where
  abbrev pub own_account : OwnDeque T → Account
  own_account o = worker_view o.worker

  -- which deque
  abbrev pub own_deque : OwnDeque T → RowsId × Global
  own_deque o = worker_deque o.worker

  -- the accounts of all passes
  abbrev pub accounts : Vec (OwnDeque T) Global → Vec (Vec (DequeHandle T) Global) Global →
      Vec (QueueHandle T) Global → List Account
  accounts owns rows queue_handles =
      map own_account owns.items ++ flat_map row_accounts rows.items ++
      map queue_account queue_handles.items
