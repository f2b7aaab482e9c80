-- What clauses say of the deques and hands of a new pool.
use Rattle.std.specs.Prelude.{◌≡◌, ℕ, ◌+◌, List, [], All, Vec}
use Rattle.atomic_blocks.specs.Lent.{RowsId}
use Rattle.crossbeam_deque.specs.Handles.{worker_deque}
use Rattle.crossbeam_queue.specs.SegTies.{SegId}
use Rattle.std.specs.declared.alloc.Global.{Global}
use Rattle.chr_pool.specs.declared.deque_handle.DequeHandle.{DequeHandle}
use Rattle.chr_pool.specs.declared.new_deque.NewDeque.{NewDeque}
use Rattle.chr_pool.specs.declared.hand.Hand.{Hand}
use Rattle.chr_pool.specs.Handles.{handle_account, stolen, queue_account, queue_shape}
use Rattle.chr_pool.specs.Hands.{row_deques, hand_account, hand_pushed, hand_taken}

module _ {T : Type 0} where
  -- which deque
  abbrev pub new_deque : NewDeque T → RowsId × Global
  new_deque d = worker_deque d.worker

  abbrev pub new_capacity : NewDeque T → ℕ
  new_capacity d = d.capacity

  -- a handle with one part, by which nothing was stolen yet
  abbrev pub IsNewHandle : DequeHandle T → Type 0
  IsNewHandle d = ((handle_account d).parts ≡ 1) × (stolen d ≡ [])

  -- a row of new handles on these deques
  abbrev pub IsRow : List (RowsId × Global) → Vec (DequeHandle T) Global → Type 0
  IsRow deques r = (row_deques r ≡ deques) × All IsNewHandle r.items

  -- a new hand, with handles on these deques and on this queue, and all but n parts of its own
  -- deque's account
  abbrev pub IsNewHand : List (RowsId × Global) → SegId Global → ℕ → Hand T → Type 0
  IsNewHand deques queue n h =
      IsRow deques h.deque_handles
      × ((queue_shape h.queue_handle).0 ≡ queue)
      × ((queue_account h.queue_handle).parts ≡ 1)
      × ((hand_account h).parts + n ≡ 64)
      × (hand_pushed h ≡ [])
      × (hand_taken h ≡ [])
