-- New hands.
use Rattle.chr_pool.specs.Accounts.{added, all_added, parts_of}
use Rattle.std.proofs.Common.{◌≡◌, ℕ, suc, ◌+◌, ◌-◌, ◌<◌, ◌≤◌, List, [], ◌∷◌, map, All, length, get_or, sym, refl, ap, ◌∙◌, subst, arith, ◌++◌}
use Rattle.chr_pool.specs.declared.deque_handle.DequeHandle.{DequeHandle}
use Rattle.std.specs.List.{concat, sum_by}
use Rattle.std.specs.declared.alloc.Global.{Global}
use Rattle.std.proofs.lemmas.List.{length-map, map-append}
use Rattle.std.proofs.lemmas.List.Concat.{concat_is}
use Rattle.std.proofs.lemmas.List.Folds.{flat_map-map}
use Rattle.std.proofs.lemmas.Simd.{map-map}
use Rattle.std.proofs.lemmas.List.Elements.{All-nil, All-cons, All-head, All-tail, All-map, All-append}
use Rattle.std.proofs.lemmas.List.Sums.{sum_by-cons, sum_by-append}
use Rattle.crossbeam_queue.specs.SegTies.{SegId}
use Rattle.atomic_blocks.specs.Lent.{RowsId}
use Rattle.chr_pool.specs.declared.hand.Hand.{Hand}
use Rattle.chr_pool.specs.declared.inlet.Inlet.{Inlet}
use Rattle.chr_pool.specs.Handles.{stolen, handle_shape, queue_account, queue_shape, handle_account}
use Rattle.chr_pool.specs.Hands.{HandId, hand_id, hand_deque, hand_account, hand_handles, hand_queue, row_deques, row_parts}
use Rattle.chr_pool.specs.Inlets.{inlet_id, inlet_queue}
use Rattle.chr_pool.specs.NewDeques.{IsNewHandle, IsNewHand}
use Rattle.chr_pool.specs.Pools.{OfOneMake, deques_reached, parts_reached, all_queues}
use Rattle.chr_pool.proofs.Settles.{flat_none, sum_map, All-unmap}

pub nothing_stolen : {T : Type 0} (ws : List (DequeHandle T)) → All IsNewHandle ws → concat (map stolen ws) ≡ []
nothing_stolen ws new = concat_is (map stolen ws) ∙ (flat_map-map (λ l. l) stolen ws ∙ flat_none stolen ws (λ k d within. (new k d within).1))

length-added : (ps r : List ℕ) → length (added ps r) ≡ length ps
length-added [] r = refl
length-added (p ∷ ps) [] = refl
length-added (p ∷ ps) (x ∷ r) = ap suc (length-added ps r)

-- a row of ones, added to parts that are all the same
one_row : (n : ℕ) (ps r : List ℕ) → All (λ (p : ℕ). p ≡ n) ps → length r ≡ length ps → All (λ (p : ℕ). p ≡ 1) r → All (λ (p : ℕ). p ≡ n + 1) (added ps r)
one_row n [] r a e b = All-nil (λ (p : ℕ). p ≡ n + 1)
one_row n (p ∷ ps) [] a e b = absurd (omega arith)
one_row n (p ∷ ps) (x ∷ r) a e b =
    All-cons (λ (p : ℕ). p ≡ n + 1) (p + x) (added ps r) (omega (arith, All-head (λ (y : ℕ). y ≡ n) p ps a, All-head (λ (y : ℕ). y ≡ 1) x r b))
    (one_row n ps r (All-tail (λ (y : ℕ). y ≡ n) p ps a) (omega arith) (All-tail (λ (y : ℕ). y ≡ 1) x r b))

pub all_rows_added : {X : Type 0} (row : X → List ℕ) (rs : List X) (n m : ℕ) (ps : List ℕ) → All (λ (p : ℕ). p ≡ n) ps → All (λ x. (length (row x) ≡ length ps) × All (λ (p : ℕ). p ≡ 1) (row x)) rs
    → n + length rs ≡ m → All (λ (p : ℕ). p ≡ m) (all_added ps (map row rs))
all_rows_added row [] n m ps a b e = subst (λ q. All (λ (p : ℕ). p ≡ q) ps) (omega arith) a
all_rows_added {X} row (r ∷ rs) n m ps a b e =
    let P : X → Type 0 = λ x. (length (row x) ≡ length ps) × All (λ (p : ℕ). p ≡ 1) (row x) in
    let here = All-head P r rs b in
    all_rows_added row rs (n + 1) m (added ps (row r)) (one_row n ps (row r) a here.0 here.1)
    (λ k d within. let h = All-tail P r rs b k d within in (h.0 ∙ sym (length-added ps (row r)), h.1)) (omega arith)

sum_ones : {X : Type 0} (f : X → ℕ) (xs : List X) → All (λ x. f x ≡ 1) xs → sum_by f xs ≡ length xs
sum_ones f [] h = refl
sum_ones f (x ∷ xs) h =
    omega (arith, All-head (λ x. f x ≡ 1) x xs h, sum_ones f xs (All-tail (λ x. f x ≡ 1) x xs h), sum_by-cons f x xs)

-- new hands and inlets are of one pool
module _ {T : Type 0} (hs : List (Hand T)) (is : List (Inlet T)) (D : List (RowsId × Global)) (q : SegId Global) (n : ℕ)
    (deques : map hand_deque hs ≡ D) (many : length hs ≡ n) (some : 0 < n) (few : n ≤ 16) (few_is : length is ≤ 16)
    (new : All (IsNewHand D q n) hs) (queues : All (λ (s : SegId Global × ℕ). s.0 ≡ q) (map inlet_id is))
    (rest : n + sum_by (λ (s : SegId Global × ℕ). s.1) (map inlet_id is) ≡ 64) where
  abbrev ids : List HandId
  ids = map hand_id hs

  of_ids : (P : HandId → Type 0) → ((h : Hand T) → IsNewHand D q n h → P (hand_id h)) → All P ids
  of_ids P each = All-map P hand_id hs (λ k d within. each (get_or hs k d) (new k d within))

  abbrev second : {X : Type 0} → X × ℕ → ℕ
  second s = s.1

  row_ones : All (λ (i : HandId). (length (parts_reached i) ≡ length (map (λ (i : HandId). i.parts) ids)) × All (λ (p : ℕ). p ≡ 1) (parts_reached i)) ids
  row_ones =
      of_ids (λ (i : HandId). (length (parts_reached i) ≡ length (map (λ (i : HandId). i.parts) ids)) × All (λ (p : ℕ). p ≡ 1) (parts_reached i)) (λ h made.
      let ws = h.deque_handles.items in
      let many = simp length-map at (ap length (made.0.0 ∙ sym deques)) in
      (simp length-map many, All-map (λ (p : ℕ). p ≡ 1) second (map handle_shape ws) (All-map (λ (s : (RowsId × Global) × ℕ). s.1 ≡ 1) handle_shape ws (λ j w inside. (made.0.1 j w inside).0))))

  pub new_pool : OfOneMake ids (map inlet_id is)
  new_pool =
      let qs = map (λ (i : HandId). i.queue) ids in
      let long : length ids ≡ n = length-map hs hand_id ∙ many in
      let own_parts = All-map (λ (p : ℕ). p ≡ 64 - n) (λ (i : HandId). i.parts) ids (of_ids (λ (i : HandId). i.parts ≡ 64 - n) (λ h made. omega (arith, made.3))) in
      let hand_queues = All-map (λ (s : SegId Global × ℕ). s.0 ≡ q) (λ (i : HandId). i.queue) ids (of_ids (λ (i : HandId). i.queue.0 ≡ q) (λ h made. made.1)) in
      let ones = sum_ones second qs (All-map (λ (s : SegId Global × ℕ). s.1 ≡ 1) (λ (i : HandId). i.queue) ids (of_ids (λ (i : HandId). i.queue.1 ≡ 1) (λ h made. made.2))) in
      record {
        some_hand = omega (arith, long);
        few_hands = omega (arith, long);
        few_inlets = omega (arith, length-map is inlet_id);
        deques = of_ids (λ (i : HandId). deques_reached i ≡ map (λ (i : HandId). i.deque) ids) (λ h made. map-map (λ (s : (RowsId × Global) × ℕ). s.0) handle_shape h.deque_handles.items ∙ (made.0.0 ∙ (sym deques ∙ sym (map-map (λ (i : HandId). i.deque) hand_id hs))));
        deque_parts = all_rows_added parts_reached ids (64 - n) 64 (map (λ (i : HandId). i.parts) ids) own_parts row_ones (omega (arith, long));
        queue = q;
        queues = All-append (λ (s : SegId Global × ℕ). s.0 ≡ q) qs (map inlet_id is) hand_queues queues;
        queue_parts = omega (arith, sum_by-append second qs (map inlet_id is), ones, length-map ids (λ (i : HandId). i.queue), long, rest);
      }

-- What OfOneMake says of ids, as facts about the hands and inlets that have them.

-- what is read in two ways of the same things
reread : {X Y Z W : Type 0} (f : Y → W) (g : X → Y) (f' : Z → W) (g' : X → Z) → ((x : X) → f (g x) ≡ f' (g' x)) → (xs : List X) → map f (map g xs) ≡ map f' (map g' xs)
reread f g f' g' same [] = refl
reread f g f' g' same (x ∷ xs) = λ k. same x k ∷ reread f g f' g' same xs k

-- of these hands and inlets
module _ {T : Type 0} (hs : List (Hand T)) (is : List (Inlet T)) where
  ids_queues : all_queues (map hand_id hs) (map inlet_id is) ≡ map queue_shape (map hand_queue hs ++ map inlet_queue is)
  ids_queues = (λ k. reread (λ (i : HandId). i.queue) hand_id queue_shape hand_queue (λ h. refl) hs k ++ sym (map-map queue_shape inlet_queue is) k) ∙ sym (map-append queue_shape (map hand_queue hs) (map inlet_queue is))

  module _ (one : OfOneMake (map hand_id hs) (map inlet_id is)) where
    pub rows_fit : All (λ r. row_deques r ≡ map hand_deque hs) (map hand_handles hs)
    rows_fit =
        All-map (λ r. row_deques r ≡ map hand_deque hs) hand_handles hs (λ k d within.
        sym (map-map (λ (s : (RowsId × Global) × ℕ). s.0) handle_shape (get_or hs k d).deque_handles.items)
        ∙ (All-unmap (λ (i : HandId). deques_reached i ≡ map (λ (i : HandId). i.deque) (map hand_id hs)) hand_id hs one.deques k d within ∙ map-map (λ (i : HandId). i.deque) hand_id hs))

    pub parts_fit : All (λ p. p ≡ 64) (all_added (parts_of (map hand_account hs)) (map row_parts (map hand_handles hs)))
    parts_fit =
        let own = reread (λ (i : HandId). i.parts) hand_id (λ v. v.parts) hand_account (λ h. refl) hs in
        let rows = reread parts_reached hand_id row_parts hand_handles (λ h. reread (λ (s : (RowsId × Global) × ℕ). s.1) handle_shape (λ v. v.parts) handle_account (λ w. refl) h.deque_handles.items) hs in
        subst (All (λ p. p ≡ 64)) (λ k. all_added (own k) (rows k)) one.deque_parts

    pub queues_fit : All (λ l. (queue_shape l).0 ≡ one.queue) (map hand_queue hs ++ map inlet_queue is)
    queues_fit =
        let P : SegId Global × ℕ → Type 0 = λ q. q.0 ≡ one.queue in
        All-unmap P queue_shape (map hand_queue hs ++ map inlet_queue is) (subst (All P) ids_queues one.queues)

    pub queue_parts_fit : sum_by (λ l. (queue_account l).parts) (map hand_queue hs ++ map inlet_queue is) ≡ 64
    queue_parts_fit =
        let second : SegId Global × ℕ → ℕ = λ q. q.1 in
        sym (sum_map second queue_shape (map hand_queue hs ++ map inlet_queue is)) ∙ (ap (sum_by second) (sym ids_queues) ∙ one.queue_parts)
