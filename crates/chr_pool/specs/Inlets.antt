-- What clauses say of an inlet.
use Rattle.std.specs.Prelude.{ℕ, List}
use Rattle.crossbeam_queue.specs.SegTies.{SegId}
use Rattle.std.specs.declared.alloc.Global.{Global}
use Rattle.chr_pool.specs.declared.queue_handle.QueueHandle.{QueueHandle}
use Rattle.chr_pool.specs.declared.inlet.Inlet.{Inlet}
use Rattle.chr_pool.specs.Handles.{queue_account, queue_shape}

module _ {T : Type 0} where
  -- what no call changes of an inlet: which queue it feeds, and its parts of the queue's account
  abbrev pub inlet_id : Inlet T → SegId Global × ℕ
  inlet_id i = queue_shape i.queue_handle

  -- the numbers of all tasks that it pushed, in order
  abbrev pub inlet_pushed : Inlet T → List ℕ
  inlet_pushed i = (queue_account i.queue_handle).pushed

  abbrev pub inlet_queue : Inlet T → QueueHandle T
  inlet_queue i = i.queue_handle
