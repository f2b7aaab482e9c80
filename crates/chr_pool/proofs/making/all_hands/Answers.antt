use Rattle.std.proofs.Common.{◌≡◌, ◌+◌, List, [], ◌∷◌, ◌++◌, length, map, All, Some, refl, sym, ap, ◌∙◌, subst, append-nil, length-append, arith}
use Rattle.std.specs.List.{range_with_len}
use Rattle.std.specs.Vec.Iter.{into_iter_items}
use Rattle.std.proofs.lemmas.List.{nil_from_length, map-append, append_assoc}
use Rattle.std.proofs.lemmas.List.Elements.{All-push, All-pop, All-head, All-tail}
use Rattle.chr_pool.specs.declared.new_deque.NewDeque.{NewDeque}
use Rattle.chr_pool.specs.declared.account.Account.{Account}
use Rattle.chr_pool.specs.Handles.{queue_shape}
use Rattle.chr_pool.specs.Hands.{hand_deque, hand_capacity, hand_number}
use Rattle.chr_pool.specs.NewDeques.{new_deque, new_capacity, IsRow, IsNewHand}
use Rattle.chr_pool.proofs.Makings.{nothing_stolen}
use Rattle.chr_pool.proofs.making.all_hands.Goals as goal

-- one hand more, and one deque less to make a hand of
one_made : {X Z : Type 0} (f : X → Z) (made new : List X) (x : X) (before rest whole : List Z) → new ≡ made ++ x ∷ [] → before ≡ f x ∷ rest → map f made ++ before ≡ whole → map f new ++ rest ≡ whole
one_made f made new x before rest whole pushed less was = ap (λ l. map f l ++ rest) pushed ∙ (rw (map-append, append_assoc) (ap (λ l. map f made ++ l) (sym less) ∙ was))

pub invariant_of-push-clause-taken_counted : goal.invariant_of-push-clause-taken_counted
invariant_of-push-clause-taken_counted g c =
    let D = map new_deque (into_iter_items c.into_iter-deque-iterator.result) in
    let row = (All-pop (IsRow D) _ c.pop.new.self.items (Some c.in-Some-pop.deque_handles) c.in-Some-pop.ensures.items c.loop-deque.invariant.4).1 in
    let a = c.in-Some.deque.nothing_taken in
    let b = ap (λ (v : Account). v.taken) c.in_ok-queue_handle.ensures.made.1 in
    let e = nothing_stolen c.in-Some-pop.deque_handles.items row.1 in
    λ k. length (a k ++ (b k ++ e k))

pub loop-deque-preserved : goal.loop-deque-preserved
loop-deque-preserved g c =
    let at = c.loop-deque in
    let deque = c.in-Some.deque in
    let handles = c.in-Some-pop.deque_handles in
    let left = into_iter_items c.next.new.self in
    let all = into_iter_items c.into_iter-deque-iterator.result in
    let D = map new_deque all in
    let steps : into_iter_items at.deque-iterator ≡ deque ∷ left = c.in-Some.ensures.steps.0 in
    let short = ap length steps in
    let Kept : NewDeque g.row.T.Denot → Type 0 = λ d. d.parts + length all ≡ 64 in
    let rows = All-pop (IsRow D) _ c.pop.new.self.items (Some handles) c.in-Some-pop.ensures.items at.invariant.4 in
    let kept : All Kept (deque ∷ left) = subst (All Kept) steps at.invariant.3 in
    let fewer = ap length c.in-Some-pop.ensures.items in
    let b = ap (λ (v : Account). v.taken) c.in_ok-queue_handle.ensures.made.1 in
    let e = nothing_stolen handles.items rows.1.1 in
    let one_part = ap (λ (v : Account). v.parts) c.in_ok-queue_handle.ensures.made.1 in
    let mine : deque.parts + length all ≡ 64 = All-head Kept deque left kept in
    let pushed = c.in_ok-push.ensures.items in (
      (let was = at.invariant.0 in let gone = c.in-Some.ensures.steps.1 in omega arith),
      one_made hand_deque at.made.items _ _ _ _ _ pushed (ap (map new_deque) steps) at.invariant.1,
      rw pushed
          (All-push (IsNewHand D (queue_shape c.args.first.now).0 (length all)) at.made.items _ at.invariant.2
          (rows.1, c.in_ok-queue_handle.ensures.made.0 ∙ at.invariant.8, one_part, ap (λ n. n + length all) deque.parts_kept ∙ mine, deque.nothing_pushed, λ k. deque.nothing_taken k ++ (b k ++ e k))),
      All-tail Kept deque left kept,
      rows.0,
      (let n = at.invariant.5 in omega (arith, n, fewer, short, length-append c.pop.new.self.items (handles ∷ []))),
      one_made hand_number at.made.items _ _ _ _ _ pushed (ap (range_with_len at.number) short) at.invariant.6,
      (let n = at.invariant.7 in omega (arith, n, short)),
      c.in_ok-queue_handle.ensures.same.0 ∙ at.invariant.8,
      (let n = at.invariant.9 in let p = c.in_ok-queue_handle.ensures.parts in omega (arith, n, p)),
      c.in_ok-queue_handle.ensures.same.1 ∙ at.invariant.10,
      c.in_ok-queue_handle.ensures.same.2 ∙ at.invariant.11,
      one_made hand_capacity at.made.items _ _ _ _ _ pushed (ap (map new_capacity) steps) at.invariant.12,
    )

-- At the end no new deque is left: what was made of the first ones and is to be made of the rest is what was made of all.
all_made : {D X : Type 0} (made : List X) (rest whole : List D → List X) (left all given : List D) → length left ≡ 0 → rest [] ≡ [] → made ++ rest left ≡ whole all → all ≡ given → made ≡ whole given
all_made made rest whole left all given none empty kept same =
    sym (append-nil made) ∙ (ap (λ l. made ++ l) (sym empty ∙ ap rest (sym (nil_from_length left none))) ∙ (kept ∙ ap whole same))

pub returns-clause-deques : goal.returns-clause-deques
returns-clause-deques g c =
    let at = c.loop-deque in
    all_made (map hand_deque at.made.items) (map new_deque) (map new_deque) (into_iter_items at.deque-iterator) _ _ (sym at.invariant.0 ∙ c.in-None.ensures.steps.0) refl at.invariant.1 c.into_iter-deque-iterator.ensures.into_iter_gives.0

pub returns-clause-capacities : goal.returns-clause-capacities
returns-clause-capacities g c =
    let at = c.loop-deque in
    all_made (map hand_capacity at.made.items) (map new_capacity) (map new_capacity) (into_iter_items at.deque-iterator) _ _ (sym at.invariant.0 ∙ c.in-None.ensures.steps.0) refl at.invariant.12 c.into_iter-deque-iterator.ensures.into_iter_gives.0

pub returns-clause-numbers : goal.returns-clause-numbers
returns-clause-numbers g c =
    let at = c.loop-deque in
    all_made (map hand_number at.made.items) (λ l. range_with_len at.number (length l)) (λ l. range_with_len 0 (length l)) (into_iter_items at.deque-iterator) _ _ (sym at.invariant.0 ∙ c.in-None.ensures.steps.0) refl at.invariant.6 c.into_iter-deque-iterator.ensures.into_iter_gives.0
