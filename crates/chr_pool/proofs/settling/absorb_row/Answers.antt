use Rattle.std.proofs.Common.{◌≡◌, ◌∷◌, map, length, sym, ap, ◌∙◌, add-one, arith}
use Rattle.std.specs.Vec.Iter.{into_iter_items}
use Rattle.chr_pool.specs.Accounts.{join}
use Rattle.chr_pool.specs.Handles.{handle_account, handle_deque}
use Rattle.chr_pool.specs.OwnDeques.{own_account, own_deque}
use Rattle.std.proofs.Math.Seq.{map-set_same}
use Rattle.std.proofs.lemmas.List.{nil_from_length}
use Rattle.chr_pool.proofs.Settles.{absorbed_at, absorbed_at_none, absorbed_turn, next_turn}
use Rattle.chr_pool.proofs.settling.absorb_row.Goals as goal

pub absorb-requires : goal.absorb-requires
absorb-requires g c =
    let at = c.loop-deque_handle in
    (next_turn own_deque at.owns.items at.i _ _ _ (ap (map handle_deque) (sym c.in-Some.ensures.steps.0) ∙ at.invariant.2)).1 ∙ ap own_deque (sym c.index_mut.ensures.value)

pub loop-deque_handle-preserved : goal.loop-deque_handle-preserved
loop-deque_handle-preserved g c =
    let at = c.loop-deque_handle in
    let deque_handle = c.in-Some.deque_handle in
    let left = into_iter_items c.next.new.self in
    let new = c.absorb.new.self in
    let steps : into_iter_items at.deque_handle-iterator ≡ deque_handle ∷ left = c.in-Some.ensures.steps.0 in
    let next = next_turn own_deque at.owns.items at.i new _ _ (ap (map handle_deque) (sym steps) ∙ at.invariant.2) in
    let same = map-set_same own_deque at.owns.items at.i new _ (c.absorb.ensures.same ∙ ap own_deque c.index_mut.ensures.value) in (
      (let was = at.invariant.0 in let gone = c.in-Some.ensures.steps.1 in let short = ap length steps in omega arith),
      same ∙ at.invariant.1,
      rw add-one (rw same next.2),
      rw add-one
          (sym (absorbed_turn own_account at.owns.items at.i _ new (handle_account deque_handle) (map handle_account left) next.0 (c.absorb.ensures.rule ∙ ap (λ o. join (own_account o) (handle_account deque_handle)) c.index_mut.ensures.value))
          ∙ (ap (λ l. absorbed_at at.i (map own_account at.owns.items) (map handle_account l)) (sym steps) ∙ at.invariant.3)),
    )

pub returns-clause-rule : goal.returns-clause-rule
returns-clause-rule g c =
    let at = c.loop-deque_handle in
    let empty = nil_from_length (into_iter_items at.deque_handle-iterator) (sym at.invariant.0 ∙ c.in-None.ensures.steps.0) in
    sym (absorbed_at_none at.i (map own_account at.owns.items)) ∙ (rw (empty, c.into_iter-deque_handle-iterator.ensures.into_iter_gives.0) at at.invariant.3)
