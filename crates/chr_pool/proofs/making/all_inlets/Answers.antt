use Rattle.std.proofs.Common.{◌≡◌, ◌+◌, ◌++◌, ℕ, [], ◌∷◌, length, map, All, sym, ap, ◌∙◌, subst, length-append, arith}
use Rattle.std.specs.List.{sum_by, flat_map}
use Rattle.std.specs.declared.alloc.Global.{Global}
use Rattle.std.proofs.lemmas.List.{map-append, flat_map_more}
use Rattle.std.proofs.lemmas.List.Elements.{All-push}
use Rattle.std.proofs.lemmas.List.Sums.{sum_by_push}
use Rattle.crossbeam_queue.specs.SegTies.{SegId}
use Rattle.chr_pool.specs.declared.account.Account.{Account}
use Rattle.chr_pool.specs.Handles.{queue_shape}
use Rattle.chr_pool.specs.Inlets.{inlet_id, inlet_pushed}
use Rattle.chr_pool.proofs.making.all_inlets.Goals as goal

pub loop-preserved : goal.loop-preserved
loop-preserved g c =
    let at = c.loop in
    let made = c.in_ok-queue_handle.ensures.made in
    let id = queue_shape c.in_ok-queue_handle.queue_handle in
    let ids = map inlet_id at.inlets.items in
    let Same : SegId Global × ℕ → Type 0 = λ q. q.0 ≡ (queue_shape c.args.first).0 in
    let second : SegId Global × ℕ → ℕ = λ q. q.1 in
    let items = c.in_ok-push.ensures.items in
    let longer : length c.push.new.self.items ≡ length at.inlets.items + 1 = ap length items ∙ length-append at.inlets.items _ in
    let more : map inlet_id c.push.new.self.items ≡ ids ++ id ∷ [] = ap (map inlet_id) items ∙ map-append inlet_id at.inlets.items _ in
    let one : id.1 ≡ 1 = ap (λ (v : Account). v.parts) made.1 in
    let none = ap (λ (v : Account). v.pushed) made.1 in (
      (let n = at.invariant.0 in omega (arith, n, longer)),
      c.in_ok-queue_handle.ensures.same.0 ∙ at.invariant.1,
      (let n = at.invariant.2 in let p = c.in_ok-queue_handle.ensures.parts in omega (arith, n, p, longer)),
      c.in_ok-queue_handle.ensures.same.1 ∙ at.invariant.3,
      c.in_ok-queue_handle.ensures.same.2 ∙ at.invariant.4,
      subst (All Same) (sym more) (All-push Same ids id at.invariant.5 (made.0 ∙ at.invariant.1)),
      (let n : sum_by second ids ≡ length at.inlets.items = at.invariant.6 in let s : sum_by second (map inlet_id c.push.new.self.items) ≡ sum_by second (ids ++ id ∷ []) = ap (sum_by second) more in omega (arith, n, s, one, longer, sum_by_push second ids id)),
      ap (flat_map inlet_pushed) items ∙ (sym (flat_map_more inlet_pushed [] at.inlets.items _) ∙ (λ k. at.invariant.7 k ++ none k)),
    )
