use Rattle.std.proofs.Common.{◌≡◌, ◌∷◌, map, length, ap, ◌∙◌, arith}
use Rattle.std.specs.Vec.Iter.{into_iter_items}
use Rattle.chr_pool.specs.Accounts.{all_absorbed}
use Rattle.std.specs.Prelude.{Vec}
use Rattle.std.specs.declared.alloc.Global.{Global}
use Rattle.chr_pool.specs.declared.deque_handle.DequeHandle.{DequeHandle}
use Rattle.chr_pool.specs.OwnDeques.{own_deque}
use Rattle.chr_pool.specs.Hands.{row_accounts, row_deques}
use Rattle.std.proofs.lemmas.List.Elements.{All-rest}
use Rattle.chr_pool.proofs.settling.absorb_rows.Goals as goal

pub loop-row-preserved : goal.loop-row-preserved
loop-row-preserved g c =
    let at = c.loop-row in
    let steps : into_iter_items at.row-iterator ≡ c.in-Some.row ∷ into_iter_items c.next.new.self = c.in-Some.ensures.steps.0 in
    let P : Vec (DequeHandle g.row.T.Denot) Global → Type 0 = λ r. row_deques r ≡ map own_deque at.owns.items in
    let same = c.absorb_row.ensures.same in (
      (let was = at.invariant.0 in let gone = c.in-Some.ensures.steps.1 in let short = ap length steps in omega arith),
      same ∙ at.invariant.1,
      rw same (All-rest P _ _ _ steps at.invariant.2),
      ap (λ vs. all_absorbed vs (map row_accounts (into_iter_items c.next.new.self))) c.absorb_row.ensures.rule ∙ (rw steps at at.invariant.3),
    )
