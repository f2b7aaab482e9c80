-- What clauses say of the handles by which a hand reaches the deques and the queue.
use Rattle.std.specs.Prelude.{◌≡◌, ℕ, ◌<◌, List, [], ◌∷◌, ◌++◌, length}
use Rattle.std.specs.List.{flat_map}
use lib.ListN.{get_or, set}
use Rattle.std.specs.Arc.{arc_value}
use Rattle.atomic_blocks.specs.Lent.{RowsId}
use Rattle.crossbeam_queue.specs.SegTies.{SegId}
use Rattle.std.specs.declared.alloc.Global.{Global}
use Rattle.crossbeam_deque.specs.Handles.{view, stealer_deque}
use Rattle.crossbeam_deque.specs.Injected.{injector_view}
use Rattle.chr_pool.specs.declared.account.Account.{Account}
use Rattle.chr_pool.specs.declared.deque_handle.DequeHandle.{DequeHandle}
use Rattle.chr_pool.specs.declared.queue_handle.QueueHandle.{QueueHandle}

module _ {T : Type 0} where
  abbrev pub handle_account : DequeHandle T → Account
  handle_account d = view d.pass

  -- the numbers of the tasks that were stolen by it, in order
  abbrev pub stolen : DequeHandle T → List ℕ
  stolen d = (handle_account d).taken

  -- which deque
  abbrev pub handle_deque : DequeHandle T → RowsId × Global
  handle_deque d = stealer_deque d.stealer

  -- which deque, and how many parts of its account
  abbrev pub handle_shape : DequeHandle T → (RowsId × Global) × ℕ
  handle_shape d = (handle_deque d, (handle_account d).parts)

  abbrev pub queue_account : QueueHandle T → Account
  queue_account q = injector_view q.pass

  -- which queue, and how many parts of its account
  abbrev pub queue_shape : QueueHandle T → SegId Global × ℕ
  queue_shape q = ((arc_value q.queue).queue, (queue_account q).parts)

-- all that these passes took, and all that they pushed
abbrev pub taken_of : List Account → List ℕ
taken_of vs = flat_map (λ (v : Account). v.taken) vs

abbrev pub pushed_of : List Account → List ℕ
pushed_of vs = flat_map (λ (v : Account). v.pushed) vs

-- one of the lists has got the number n at its end, and the others are as they were
pub record OneGrew (n : ℕ) (old new : List (List ℕ)) : Type 0 where
  pub place : ℕ
  pub within : place < length old
  pub is : new ≡ set old place (get_or old place [] ++ n ∷ [])
