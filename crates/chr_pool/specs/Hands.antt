-- What clauses say of a hand.
use Rattle.std.specs.Prelude.{ℕ, List, ◌∷◌, map, Vec}
use Rattle.std.specs.List.{concat}
use Rattle.crossbeam_deque.specs.Handles.{worker_deque, worker_view}
use Rattle.crossbeam_queue.specs.SegTies.{SegId}
use Rattle.atomic_blocks.specs.Lent.{RowsId}
use Rattle.std.specs.declared.alloc.Global.{Global}
use Rattle.chr_pool.specs.declared.account.Account.{Account}
use Rattle.chr_pool.specs.declared.deque_handle.DequeHandle.{DequeHandle}
use Rattle.chr_pool.specs.declared.queue_handle.QueueHandle.{QueueHandle}
use Rattle.chr_pool.specs.declared.hand.Hand.{Hand}
use Rattle.chr_pool.specs.Accounts.{parts_of}
use Rattle.chr_pool.specs.Handles.{queue_account, queue_shape, handle_shape, handle_account, handle_deque, stolen}

-- what no call changes of a hand: its number and capacity, its own deque and the queue, and all
-- deques of the pool in order, with its parts of the account of each
pub record HandId : Type 0 where
  pub number : ℕ
  pub capacity : ℕ
  pub deque : RowsId × Global
  pub parts : ℕ
  pub queue : SegId Global × ℕ
  pub deques : List ((RowsId × Global) × ℕ)

module _ {T : Type 0} where
  abbrev pub hand_id : Hand T → HandId
  hand_id h = record {
    number = h.number;
    capacity = h.capacity;
    deque = worker_deque h.own;
    parts = (worker_view h.own).parts;
    queue = queue_shape h.queue_handle;
    deques = map handle_shape h.deque_handles.items;
  }

  abbrev pub hand_number : Hand T → ℕ
  hand_number h = h.number

  abbrev pub hand_capacity : Hand T → ℕ
  hand_capacity h = h.capacity

  -- the numbers of all tasks that it pushed, in order
  abbrev pub hand_pushed : Hand T → List ℕ
  hand_pushed h = (worker_view h.own).pushed

  -- the numbers of the tasks that it took of the queue, in order
  abbrev pub hand_fed : Hand T → List ℕ
  hand_fed h = (queue_account h.queue_handle).taken

  -- the numbers of the tasks that it took: of its own deque, of the queue, and of the deque of each
  -- hand by stealing, each list in order
  abbrev pub hand_views : Hand T → List (List ℕ)
  hand_views h =
      (worker_view h.own).taken ∷ (queue_account h.queue_handle).taken ∷
      map stolen h.deque_handles.items

  -- the numbers of all tasks that it took
  abbrev pub hand_taken : Hand T → List ℕ
  hand_taken h = concat (hand_views h)

  abbrev pub hand_account : Hand T → Account
  hand_account h = worker_view h.own

  abbrev pub hand_deque : Hand T → RowsId × Global
  hand_deque h = worker_deque h.own

  abbrev pub hand_handles : Hand T → Vec (DequeHandle T) Global
  hand_handles h = h.deque_handles

  abbrev pub hand_queue : Hand T → QueueHandle T
  hand_queue h = h.queue_handle

  -- of a row of handles, one on each deque: their accounts, the deques, and the parts
  abbrev pub row_accounts : Vec (DequeHandle T) Global → List Account
  row_accounts r = map handle_account r.items

  abbrev pub row_deques : Vec (DequeHandle T) Global → List (RowsId × Global)
  row_deques r = map handle_deque r.items

  abbrev pub row_parts : Vec (DequeHandle T) Global → List ℕ
  row_parts r = parts_of (row_accounts r)
