use Rattle.std.proofs.Common.{◌≡◌, ◌+◌, ◌<◌, [], ◌∷◌, ◌++◌, length, map, take, get_or, set, sym, ap, ◌∙◌, arith}
use Rattle.std.proofs.lemmas.List.{length-set, length-map, map-append, take_more, get_or-set_same, get_or-set_other, get_or-map}
use Rattle.std.proofs.lemmas.List.Elements.{All-push}
use Rattle.chr_pool.specs.declared.new_deque.NewDeque.{NewDeque}
use Rattle.chr_pool.specs.Handles.{handle_deque}
use Rattle.chr_pool.specs.NewDeques.{new_deque, new_capacity, IsNewHandle}
use Rattle.std.proofs.Math.Seq.{map-set_same}
use borrow.Author.Count.{below_more}
use Rattle.chr_pool.proofs.making.split_row.Goals as goal

pub loop-i-preserved : goal.loop-i-preserved
loop-i-preserved g c =
    let at = c.loop-i in
    let xs = at.deques.items in
    let old = c.index_mut.result.now in
    let new = c.split.new.self in
    let deque_handle = c.in_ok-split.field-0 in
    let within : at.i < length xs = omega arith in
    let n = at.invariant.1 in
    let F = map new_deque c.args.deques.now.items in
    let inside : at.i < length F = omega (arith, n, within, length-map c.args.deques.now.items (new_deque {T = g.row.T.Denot})) in
    let here : get_or F at.i (new_deque old) ≡ handle_deque deque_handle =
    ap (λ l. get_or l at.i (new_deque old)) (sym at.invariant.0) ∙ (get_or-map new_deque xs at.i _ (new_deque old) within ∙ (ap new_deque (sym c.index_mut.ensures.value) ∙ sym c.in_ok-split.ensures.handle.0)) in
    let was : old.parts ≡ c.args.parts = ap (λ (f : NewDeque g.row.T.Denot). f.parts) c.index_mut.ensures.value ∙ at.invariant.5 at.i (omega arith) within _ in (
      map-set_same new_deque xs at.i new _ (c.split.ensures.same.0 ∙ ap new_deque c.index_mut.ensures.value) ∙ at.invariant.0,
      length-set xs at.i new ∙ n,
      ap (map handle_deque) c.in_ok-push.ensures.items
          ∙ (map-append handle_deque at.row.items (deque_handle ∷ [])
          ∙ (ap (λ l. l ++ handle_deque deque_handle ∷ []) at.invariant.2 ∙ (ap (λ y. take at.i F ++ y ∷ []) (sym here) ∙ sym (take_more F at.i (new_deque old) inside)))),
      rw c.in_ok-push.ensures.items (All-push IsNewHandle at.row.items deque_handle at.invariant.3 (c.in_ok-split.ensures.handle.1, c.in_ok-split.ensures.handle.3)),
      below_more (λ k. (d : NewDeque g.row.T.Denot) → (get_or (set xs at.i new) k d).parts + 1 ≡ c.args.parts) at.i
          (λ k below d. ap (λ (f : NewDeque g.row.T.Denot). f.parts + 1) (get_or-set_other xs at.i k new d (omega arith)) ∙ at.invariant.4 k below d)
          (λ d. ap (λ (f : NewDeque g.row.T.Denot). f.parts + 1) (get_or-set_same xs at.i new d within) ∙ (c.in_ok-split.ensures.parts ∙ was)),
      (λ k past inside' d. ap (λ (f : NewDeque g.row.T.Denot). f.parts) (get_or-set_other xs at.i k new d (omega arith)) ∙ at.invariant.5 k (omega arith) (let e = length-set xs at.i new in omega arith) d),
      map-set_same new_capacity xs at.i new _ (c.split.ensures.same.1 ∙ ap new_capacity c.index_mut.ensures.value) ∙ at.invariant.6,
    )
