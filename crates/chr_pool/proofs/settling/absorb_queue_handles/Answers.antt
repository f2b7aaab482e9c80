use Rattle.std.proofs.Common.{◌≡◌, ◌∷◌, map, length, ap, ◌∙◌, arith}
use Rattle.std.specs.Vec.Iter.{into_iter_items}
use Rattle.chr_pool.specs.Accounts.{joined}
use Rattle.chr_pool.specs.declared.queue_handle.QueueHandle.{QueueHandle}
use Rattle.chr_pool.specs.Handles.{queue_account, queue_shape}
use Rattle.std.proofs.lemmas.List.Elements.{All-rest}
use Rattle.chr_pool.proofs.settling.absorb_queue_handles.Goals as goal

pub loop-queue_handle-preserved : goal.loop-queue_handle-preserved
loop-queue_handle-preserved g c =
    let at = c.loop-queue_handle in
    let steps : into_iter_items at.queue_handle-iterator ≡ c.in-Some.queue_handle ∷ into_iter_items c.next.new.self = c.in-Some.ensures.steps.0 in
    let P : QueueHandle g.row.T.Denot → Type 0 = λ r. (queue_shape r).0 ≡ (queue_shape at.first).0 in
    let same = c.absorb.ensures.same in (
      (let was = at.invariant.0 in let gone = c.in-Some.ensures.steps.1 in let short = ap length steps in omega arith),
      rw same (All-rest P _ _ _ steps at.invariant.1),
      ap (λ v. joined v (map queue_account (into_iter_items c.next.new.self))) c.absorb.ensures.rule ∙ (rw steps at at.invariant.2),
    )
