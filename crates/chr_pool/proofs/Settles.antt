-- The accounts of all passes, pushed together.
use Rattle.std.proofs.Common.{◌≡◌, ℕ, ◌+◌, List, [], ◌∷◌, ◌++◌, map, All, length, sym, refl, ap, ◌∙◌, suc, subst, arith, get_or, length-append, zero, ◌<◌, ◌≤◌, set, drop}
use Rattle.std.specs.List.{sum_by, flat_map, concat}
use Rattle.std.proofs.lemmas.List.{length-map, get_or-map, map-append, length-drop}
use Rattle.std.proofs.lemmas.List.Elements.{All-head, All-tail}
use Rattle.std.proofs.lemmas.List.Sums.{sum_by-cons, sum_by-append, sum_by_push}
use Rattle.chr_pool.specs.declared.account.Account.{Account}
use Rattle.chr_pool.specs.Accounts.{join, absorbed, all_absorbed, joined, added, all_added, parts_of, took}
use Rattle.std.specs.Prelude.{Vec}
use Rattle.std.specs.declared.alloc.Global.{Global}
use Rattle.chr_pool.specs.declared.own_deque.OwnDeque.{OwnDeque}
use Rattle.chr_pool.specs.declared.deque_handle.DequeHandle.{DequeHandle}
use Rattle.chr_pool.specs.declared.queue_handle.QueueHandle.{QueueHandle}
use Rattle.chr_pool.specs.Handles.{queue_account, taken_of, pushed_of, stolen, handle_account}
use Rattle.chr_pool.specs.Hands.{row_accounts, row_deques, hand_account, hand_handles, hand_queue, hand_pushed, hand_taken}
use Rattle.chr_pool.specs.OwnDeques.{own_account, own_deque, accounts}
use Rattle.std.proofs.lemmas.List.Concat.{concat_is, length-flat_map}
use Rattle.std.proofs.lemmas.List.Folds.{flat_map-map}
use Rattle.chr_pool.specs.declared.hand.Hand.{Hand}
use Rattle.chr_pool.specs.declared.inlet.Inlet.{Inlet}
use Rattle.chr_pool.specs.Inlets.{inlet_pushed, inlet_queue}
use Rattle.chr_pool.specs.Pools.{pool_pushed, pool_taken}
use Rattle.std.proofs.Math.Seq.{drop-cons}
use Rattle.chr_pool.proofs.Rules.{ones}

pub weigh_flat : {X : Type 0} (h : ℕ → ℕ) (f : X → List ℕ) (xs : List X) → sum_by h (flat_map f xs) ≡ sum_by (λ x. sum_by h (f x)) xs
weigh_flat h f [] = refl
weigh_flat h f (x ∷ xs) = omega (arith, weigh_flat h f xs, sum_by-append h (f x) (flat_map f xs), sum_by-cons (λ y. sum_by h (f y)) x xs)

pub flat_none : {X : Type 0} (f : X → List ℕ) (xs : List X) → All (λ x. f x ≡ []) xs → flat_map f xs ≡ []
flat_none f [] h = refl
flat_none f (x ∷ xs) h = ap (λ l. l ++ flat_map f xs) (All-head (λ x. f x ≡ []) x xs h) ∙ flat_none f xs (All-tail (λ x. f x ≡ []) x xs h)

pub sum_map : {X Y : Type 0} (f : Y → ℕ) (g : X → Y) (xs : List X) → sum_by f (map g xs) ≡ sum_by (λ x. f (g x)) xs
sum_map f g [] = refl
sum_map f g (x ∷ xs) = omega (arith, sum_map f g xs, sum_by-cons f (g x) (map g xs), sum_by-cons (λ x. f (g x)) x xs)

length-absorbed : (vs ws : List Account) → length (absorbed vs ws) ≡ length vs
length-absorbed [] ws = refl
length-absorbed (v ∷ vs) [] = refl
length-absorbed (v ∷ vs) (w ∷ ws) = ap suc (length-absorbed vs ws)

-- a weight of accounts, of which two accounts pushed together have the sum
module _ (w : Account → ℕ) (both : (v u : Account) → w (join v u) ≡ w v + w u) where
  weigh_absorbed : (vs us : List Account) → length us ≡ length vs → sum_by w (absorbed vs us) ≡ sum_by w vs + sum_by w us
  weigh_absorbed [] [] e = refl
  weigh_absorbed [] (u ∷ us) e = absurd (omega arith)
  weigh_absorbed (v ∷ vs) [] e = absurd (omega arith)
  weigh_absorbed (v ∷ vs) (u ∷ us) e =
      omega (arith, weigh_absorbed vs us (omega arith), both v u, sum_by-cons w (join v u) (absorbed vs us), sum_by-cons w v vs, sum_by-cons w u us)

  pub weigh_all_absorbed : {X : Type 0} (row : X → List Account) (rs : List X) (vs : List Account) → All (λ r. length (row r) ≡ length vs) rs
      → sum_by w (all_absorbed vs (map row rs)) ≡ sum_by w vs + sum_by w (flat_map row rs)
  weigh_all_absorbed row [] vs long = omega arith
  weigh_all_absorbed {X} row (r ∷ rs) vs long =
      let Long : X → Type 0 = λ x. length (row x) ≡ length vs in
      let rest = weigh_all_absorbed row rs (absorbed vs (row r)) (λ k d within. All-tail Long r rs long k d within ∙ sym (length-absorbed vs (row r))) in
      omega (arith, weigh_absorbed vs (row r) (All-head Long r rs long), rest, sum_by-append w (row r) (flat_map row rs))

  pub weigh_joined : {X : Type 0} (g : X → Account) (v : Account) (xs : List X) → w (joined v (map g xs)) ≡ w v + sum_by (λ x. w (g x)) xs
  weigh_joined g v [] = omega arith
  weigh_joined g v (x ∷ xs) = omega (arith, weigh_joined g (join v (g x)) xs, both v (g x), sum_by-cons (λ y. w (g y)) x xs)

parts_absorbed : (vs ws : List Account) → parts_of (absorbed vs ws) ≡ added (parts_of vs) (parts_of ws)
parts_absorbed [] ws = refl
parts_absorbed (v ∷ vs) [] = refl
parts_absorbed (v ∷ vs) (w ∷ ws) = ap (λ l. (v.parts + w.parts) ∷ l) (parts_absorbed vs ws)

pub parts_all_absorbed : {X : Type 0} (row : X → List Account) (rs : List X) (vs : List Account) → parts_of (all_absorbed vs (map row rs)) ≡ all_added (parts_of vs) (map (λ r. parts_of (row r)) rs)
parts_all_absorbed row [] vs = refl
parts_all_absorbed row (r ∷ rs) vs =
    parts_all_absorbed row rs (absorbed vs (row r)) ∙ ap (λ l. all_added l (map (λ x. parts_of (row x)) rs)) (parts_absorbed vs (row r))

pub All-unmap : {X Y : Type 0} (P : Y → Type 0) (f : X → Y) (xs : List X) → All P (map f xs) → All (λ x. P (f x)) xs
All-unmap P f xs h k d within = subst P (get_or-map f xs k d (f d) within) (h k (f d) (omega (arith, length-map xs f)))

-- What a deque's worker and the queue's first queue_handle know once they took in all other accounts.

pub own_whole : {X : Type 0} (row : X → List Account) (rs : List X) (vs us : List Account) → us ≡ all_absorbed vs (map row rs) → All (λ p. p ≡ 64) (all_added (parts_of vs) (map (λ r. parts_of (row r)) rs)) → All (λ (v : Account). v.parts ≡ 64) us
own_whole row rs vs us rule all =
    All-unmap (λ (p : ℕ). p ≡ 64) (λ (v : Account). v.parts) us (subst (All (λ (p : ℕ). p ≡ 64)) (sym (ap parts_of rule ∙ parts_all_absorbed row rs vs)) all)

-- `v` is of the queue's handle that took in all others
module _ {T : Type 0} (queue_handles : Vec (QueueHandle T) Global) (rest : List (QueueHandle T)) (queue_handle : QueueHandle T) (v : Account)
    (popped : queue_handles.items ≡ rest ++ queue_handle ∷ []) (queue_rule : v ≡ joined (queue_account queue_handle) (map queue_account rest)) where
  pub queue_settled : (w : Account → ℕ) → ((a b : Account) → w (join a b) ≡ w a + w b) → sum_by (λ l. w (queue_account l)) queue_handles.items ≡ w v
  queue_settled w both =
      let of_handle : QueueHandle T → ℕ = λ l. w (queue_account l) in
      omega (arith, ap (sum_by of_handle) popped, sum_by_push of_handle rest queue_handle, ap w queue_rule, weigh_joined w both queue_account (queue_account queue_handle) rest)

  -- and `us` of the deques, each of which took in what is of it in all rows
  pub settled : (owns : Vec (OwnDeque T) Global) (rows : Vec (Vec (DequeHandle T) Global) Global) (us : List Account) → All (λ r. row_deques r ≡ map own_deque owns.items) rows.items
      → us ≡ all_absorbed (map own_account owns.items) (map row_accounts rows.items) → (f : Account → List ℕ) → ((a b : Account) → f (join a b) ≡ f a ++ f b) → (h : ℕ → ℕ)
      → sum_by h (flat_map f (accounts owns rows queue_handles)) ≡ sum_by h (flat_map f us) + sum_by h (f v)
  settled owns rows us deques own_rule f both h =
      let w : Account → ℕ = λ a. sum_by h (f a) in
      let added : (a b : Account) → w (join a b) ≡ w a + w b = λ a b. ap (sum_by h) (both a b) ∙ sum_by-append h (f a) (f b) in
      let vs = map own_account owns.items in
      let rs = flat_map row_accounts rows.items in
      let ls = map queue_account queue_handles.items in
      let long : All (λ r. length (row_accounts r) ≡ length vs) rows.items = λ k d within. simp length-map (simp length-map at (ap length (deques k d within))) in
      omega (arith, weigh_flat h f (vs ++ rs ++ ls), weigh_flat h f us, sum_by-append w (vs ++ rs) ls, sum_by-append w vs rs, ap (sum_by w) own_rule, weigh_all_absorbed w added row_accounts rows.items vs long, sum_map w queue_account queue_handles.items, queue_settled w added)

-- What all hands and inlets pushed and took, by the accounts of their passes.

module _ {T : Type 0} where
  -- the accounts of all passes
  abbrev pub everyone : List (Hand T) → List (Inlet T) → List Account
  everyone hs is = map hand_account hs ++ flat_map row_accounts (map hand_handles hs) ++ map queue_account (map hand_queue hs ++ map inlet_queue is)

  pub same_accounts : (owns : Vec (OwnDeque T) Global) (rows : Vec (Vec (DequeHandle T) Global) Global) (queue_handles : Vec (QueueHandle T) Global) (hs : List (Hand T)) (is : List (Inlet T))
      → map own_account owns.items ≡ map hand_account hs → rows.items ≡ map hand_handles hs → queue_handles.items ≡ map hand_queue hs ++ map inlet_queue is → accounts owns rows queue_handles ≡ everyone hs is
  same_accounts owns rows queue_handles hs is a b c k = a k ++ flat_map row_accounts (b k) ++ map queue_account (c k)

-- what all passes have, by what those of each hand and of each inlet have together
module _ {T : Type 0} (h : ℕ → ℕ) (side : Account → List ℕ) (of_hand : Hand T → List ℕ) (of_inlet : Inlet T → List ℕ)
    (hand : (x : Hand T) → sum_by h (side (hand_account x)) + sum_by h (flat_map side (row_accounts x.deque_handles)) + sum_by h (side (queue_account x.queue_handle)) ≡ sum_by h (of_hand x))
    (inlet : (x : Inlet T) → side (queue_account x.queue_handle) ≡ of_inlet x) where
  abbrev weight : Account → ℕ
  weight v = sum_by h (side v)

  hands_sum : (hs : List (Hand T)) → sum_by weight (map hand_account hs) + sum_by weight (flat_map row_accounts (map hand_handles hs)) + sum_by weight (map queue_account (map hand_queue hs)) ≡ sum_by h (flat_map of_hand hs)
  hands_sum [] = refl
  hands_sum (x ∷ hs) =
      omega (
        arith,
        hand x,
        hands_sum hs,
        weigh_flat h side (row_accounts x.deque_handles),
        sum_by-cons weight (hand_account x) (map hand_account hs),
        sum_by-append weight (row_accounts x.deque_handles) (flat_map row_accounts (map hand_handles hs)),
        sum_by-cons weight (queue_account x.queue_handle) (map queue_account (map hand_queue hs)),
        sum_by-append h (of_hand x) (flat_map of_hand hs),
      )

  inlets_sum : (is : List (Inlet T)) → sum_by weight (map queue_account (map inlet_queue is)) ≡ sum_by h (flat_map of_inlet is)
  inlets_sum [] = refl
  inlets_sum (x ∷ is) =
      omega (arith, ap (sum_by h) (inlet x), inlets_sum is, sum_by-cons weight (queue_account x.queue_handle) (map queue_account (map inlet_queue is)), sum_by-append h (of_inlet x) (flat_map of_inlet is))

  everyone_sum : (hs : List (Hand T)) (is : List (Inlet T)) → sum_by h (flat_map side (everyone hs is)) ≡ sum_by h (flat_map of_hand hs) + sum_by h (flat_map of_inlet is)
  everyone_sum hs is =
      let own = map hand_account hs in
      let rows = flat_map row_accounts (map hand_handles hs) in
      let queues = map queue_account (map hand_queue hs) in
      let ends = map queue_account (map inlet_queue is) in
      let last = ap (sum_by weight) (map-append queue_account (map hand_queue hs) (map inlet_queue is)) ∙ sum_by-append weight queues ends in
      omega (arith, weigh_flat h side (everyone hs is), sum_by-append weight (own ++ rows) (map queue_account (map hand_queue hs ++ map inlet_queue is)), sum_by-append weight own rows, last, hands_sum hs, inlets_sum is)

module _ {T : Type 0} (h : ℕ → ℕ) (hs : List (Hand T)) (is : List (Inlet T)) where
  pub everyone_pushed : sum_by h (pushed_of (everyone hs is)) ≡ sum_by h (pool_pushed hs is)
  everyone_pushed =
      let hand : (x : Hand T) → sum_by h (hand_account x).pushed + sum_by h (pushed_of (row_accounts x.deque_handles)) + sum_by h (queue_account x.queue_handle).pushed ≡ sum_by h (hand_pushed x) = λ x.
      let none = flat_none (λ d. (handle_account d).pushed) x.deque_handles.items (λ k d within. (get_or x.deque_handles.items k d).only_taken) in
      omega (arith, ap (sum_by h) x.queue_only_taken, ap (sum_by h) (flat_map-map (λ v. v.pushed) handle_account x.deque_handles.items ∙ none)) in
      omega (arith, everyone_sum h (λ v. v.pushed) hand_pushed inlet_pushed hand (λ x. refl) hs is, sum_by-append h (flat_map hand_pushed hs) (flat_map inlet_pushed is))

  pub everyone_taken : sum_by h (taken_of (everyone hs is)) ≡ sum_by h (pool_taken hs)
  everyone_taken =
      let hand : (x : Hand T) → sum_by h (hand_account x).taken + sum_by h (taken_of (row_accounts x.deque_handles)) + sum_by h (queue_account x.queue_handle).taken ≡ sum_by h (hand_taken x) = λ x.
      let rest = concat (map stolen x.deque_handles.items) in
      let fed = (queue_account x.queue_handle).taken in
      let same : taken_of (row_accounts x.deque_handles) ≡ rest = flat_map-map (λ v. v.taken) handle_account x.deque_handles.items ∙ sym (concat_is (map stolen x.deque_handles.items) ∙ flat_map-map (λ l. l) stolen x.deque_handles.items) in
      omega (arith, ap (sum_by h) same, sum_by-append h (hand_account x).taken (fed ++ rest), sum_by-append h fed rest) in
      omega (arith, everyone_sum h (λ v. v.taken) hand_taken (λ x. []) hand (λ x. x.queue_only_pushed) hs is, ap (sum_by h) (flat_none {X = Inlet T} (λ x. []) is (λ k d within. refl)))

  pub pushed_counted : length (pool_pushed hs is) ≡ sum_by (λ x. x.pushed) hs + sum_by (λ x. x.pushed) is
  pushed_counted =
      let of_hands = length-flat_map hand_pushed hs ∙ (λ k. sum_by (λ x. x.pushed_counted k) hs) in
      let of_inlets = length-flat_map inlet_pushed is ∙ (λ k. sum_by (λ x. x.pushed_counted k) is) in
      omega (arith, of_hands, of_inlets, length-append (flat_map hand_pushed hs) (flat_map inlet_pushed is))

  pub taken_counted : length (pool_taken hs) ≡ sum_by (λ x. x.taken) hs
  taken_counted = length-flat_map hand_taken hs ∙ (λ k. sum_by (λ x. x.taken_counted k) hs)

-- Putting accounts together, in turn.

-- from the place i on
abbrev pub absorbed_at : ℕ → List Account → List Account → List Account
absorbed_at zero vs ws = absorbed vs ws
absorbed_at (suc i) [] ws = []
absorbed_at (suc i) (v ∷ vs) ws = v ∷ absorbed_at i vs ws

pub absorbed_at_none : (i : ℕ) (vs : List Account) → absorbed_at i vs [] ≡ vs
absorbed_at_none zero [] = refl
absorbed_at_none zero (v ∷ vs) = refl
absorbed_at_none (suc i) [] = refl
absorbed_at_none (suc i) (v ∷ vs) = ap (λ l. v ∷ l) (absorbed_at_none i vs)

pub absorbed_turn : {X : Type 0} (f : X → Account) (xs : List X) (i : ℕ) (d x : X) (w : Account) (ws : List Account) → i < length xs → f x ≡ join (f (get_or xs i d)) w
    → absorbed_at i (map f xs) (w ∷ ws) ≡ absorbed_at (suc i) (map f (set xs i x)) ws
absorbed_turn f [] i d x w ws within e = absurd (omega arith)
absorbed_turn f (y ∷ ys) zero d x w ws within e = ap (λ v. v ∷ absorbed (map f ys) ws) (sym e)
absorbed_turn f (y ∷ ys) (suc i) d x w ws within e = ap (λ l. f y ∷ l) (absorbed_turn f ys i d x w ws (omega arith) e)

-- the next of a list that stands in another from the place i on
pub next_turn : {X D : Type 0} (f : X → D) (xs : List X) (i : ℕ) (d : X) (y : D) (ys : List D) → y ∷ ys ≡ drop i (map f xs) → (i < length xs) × (y ≡ f (get_or xs i d)) × (ys ≡ drop (suc i) (map f xs))
next_turn {X} {D} f xs i d y ys e =
    let within : i < length xs = omega (arith, ap (length {A = D}) e, length-drop i (map f xs), length-map xs f) in
    let next = e ∙ drop-cons (map f xs) i (f d) (omega (arith, length-map xs f)) in
    (within, ap (λ (l : List D). get_or l 0 y) next ∙ get_or-map f xs i d (f d) within, ap (λ (l : List D). drop 1 l) next)

-- no more was taken than was pushed
abbrev pub Few : Account → Type 0
Few v = length v.taken ≤ length v.pushed

pub all_few : (vs : List Account) → All Few vs → length (taken_of vs) ≤ length (pushed_of vs)
all_few [] h = omega arith
all_few (v ∷ vs) h =
    omega (arith, All-head Few v vs h, all_few vs (All-tail Few v vs h), length-append v.taken (taken_of vs), length-append v.pushed (pushed_of vs))

-- the turns of the loop over the deques: `left` is taken, and `vs` are the accounts of the deques that are not emptied yet
module _ {T : Type 0} (f : T → ℕ) (start : List T) (all : List Account) where
  abbrev pub Emptied : List T → List Account → Type 0
  Emptied left vs = (h : ℕ → ℕ) → sum_by h (map f left) + sum_by h (taken_of all) + sum_by h (pushed_of vs) ≡ sum_by h (map f start) + sum_by h (pushed_of all) + sum_by h (taken_of vs)

  pub emptied_room : (left : List T) (v : Account) (vs : List Account) (most : ℕ) → Emptied left (v ∷ vs) → All Few (v ∷ vs) → length start + length (pushed_of all) ≤ most + length (taken_of all)
      → length left + length v.pushed ≤ most + length v.taken
  emptied_room left v vs most turn few wide =
      omega (arith, turn (λ (x : ℕ). 1), all_few vs (All-tail Few v vs few), wide, ones (map f left), ones (map f start), ones (taken_of all), ones (pushed_of all), ones (v.pushed ++ pushed_of vs), ones (v.taken ++ taken_of vs), length-append v.taken (taken_of vs), length-append v.pushed (pushed_of vs), length-map left f, length-map start f)

  pub emptied_more : (left more : List T) (v : Account) (vs : List Account) → Emptied left (v ∷ vs) → ((h : ℕ → ℕ) → sum_by h (map f more) + sum_by h v.taken ≡ sum_by h (map f left) + sum_by h v.pushed) → Emptied more vs
  emptied_more left more v vs turn step h =
      omega (arith, turn h, step h, sum_by-append h v.taken (taken_of vs), sum_by-append h v.pushed (pushed_of vs))

-- The turns of a loop that takes all that is left. v is the account as it began, u as it is, and w as it is after one taking.

module _ {T : Type 0} (f : T → ℕ) (start : List T) (v : Account) where
  abbrev pub Turn : List T → Account → Type 0
  Turn left u = (h : ℕ → ℕ) → sum_by h (map f left) + sum_by h v.taken ≡ sum_by h (map f start) + sum_by h u.taken

  pub room : (left : List T) (u w : Account) (n most : ℕ) → Turn left u → w ≡ took n u → u.pushed ≡ v.pushed → length w.taken ≤ length w.pushed → length start + length v.pushed ≤ most + length v.taken → length left < most
  room left u w n most turn e same few wide =
      omega (arith, turn (λ (x : ℕ). 1), ap (λ (a : Account). length a.taken) e, ap (λ (a : Account). length a.pushed) e, length-append u.taken (n ∷ []), ap (length {A = ℕ}) same, few, wide, ones (map f left), ones (map f start), ones v.taken, ones u.taken, length-map left f, length-map start f)
