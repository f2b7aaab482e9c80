-- What clauses say of all the hands and inlets of one pool.
use Rattle.std.specs.Prelude.{◌≡◌, ℕ, ◌<◌, ◌≤◌, List, ◌++◌, map, All, length}
use Rattle.std.specs.List.{sum_by, flat_map}
use Rattle.crossbeam_queue.specs.SegTies.{SegId}
use Rattle.atomic_blocks.specs.Lent.{RowsId}
use Rattle.std.specs.declared.alloc.Global.{Global}
use Rattle.chr_pool.specs.declared.hand.Hand.{Hand}
use Rattle.chr_pool.specs.declared.inlet.Inlet.{Inlet}
use Rattle.chr_pool.specs.Accounts.{all_added}
use Rattle.chr_pool.specs.Hands.{HandId, hand_pushed, hand_taken}
use Rattle.chr_pool.specs.Inlets.{inlet_pushed}

module _ {T : Type 0} where
  -- the numbers of all tasks that were pushed, and that were taken
  abbrev pub pool_pushed : List (Hand T) → List (Inlet T) → List ℕ
  pool_pushed hands inlets = flat_map hand_pushed hands ++ flat_map inlet_pushed inlets

  abbrev pub pool_taken : List (Hand T) → List ℕ
  pool_taken hands = flat_map hand_taken hands

-- the deques that a hand reaches, and its parts of their accounts
abbrev pub deques_reached : HandId → List (RowsId × Global)
deques_reached h = map (λ (d : (RowsId × Global) × ℕ). d.0) h.deques

abbrev pub parts_reached : HandId → List ℕ
parts_reached h = map (λ (d : (RowsId × Global) × ℕ). d.1) h.deques

-- all queue handles of these hands and inlets
abbrev pub all_queues : List HandId → List (SegId Global × ℕ) → List (SegId Global × ℕ)
all_queues hands inlets = map (λ (h : HandId). h.queue) hands ++ inlets

-- these are all hands and inlets of one pool: each hand reaches the deques of all hands, in their
-- order; all have handles on one queue; and of the account of each deque, and of the queue, all 64
-- parts are here
pub record OfOneMake (hands : List HandId) (inlets : List (SegId Global × ℕ)) : Type 0 where
  pub some_hand : 0 < length hands
  pub few_hands : length hands ≤ 16
  pub few_inlets : length inlets ≤ 16
  pub deques : All (λ h. deques_reached h ≡ map (λ (i : HandId). i.deque) hands) hands
  pub deque_parts : All (λ n. n ≡ 64)
      (all_added (map (λ (h : HandId). h.parts) hands) (map parts_reached hands))
  pub queue : SegId Global
  pub queues : All (λ q. q.0 ≡ queue) (all_queues hands inlets)
  pub queue_parts : sum_by (λ (q : SegId Global × ℕ). q.1) (all_queues hands inlets) ≡ 64
