use Rattle.std.proofs.Common.{ap, ◌∙◌, subst, arith, map, set}
use Rattle.std.proofs.Math.Seq.{map-set_same}
use Rattle.std.proofs.lemmas.List.{length-set}
use Rattle.chr_pool.specs.declared.account.Account.{Account}
use Rattle.chr_pool.specs.Handles.{stolen, handle_shape, handle_account, OneGrew}
use Rattle.chr_pool.specs.Accounts.{took}
use Rattle.chr_pool.proofs.ViewLists.{at_grew}
use Rattle.chr_pool.proofs.hand.steal_from.Goals as goal

pub returns-in-Some-clause-same : goal.returns-in-Some-clause-same
returns-in-Some-clause-same g c =
    map-set_same handle_shape c.loop-i.handles.items c.loop-i.i c.take.new.self _ (c.take.ensures.same ∙ ap handle_shape c.index_mut.ensures.value) ∙ c.loop-i.invariant.0

pub returns-in-Some-clause-rule : goal.returns-in-Some-clause-rule
returns-in-Some-clause-rule g c =
    let n = g.T.Numbered.number c.in-Some.task in
    let at = c.loop-i in
    let e = ap (λ (v : Account). v.taken) (c.in-Some.ensures.rule ∙ ap (λ w. took n (handle_account w)) c.index_mut.ensures.value) in
    subst (λ l. OneGrew n l (map stolen (set at.handles.items at.i c.take.new.self))) at.invariant.1 (at_grew n stolen at.handles.items at.i _ c.take.new.self (omega arith) e)

pub loop-i-preserved : goal.loop-i-preserved
loop-i-preserved g c = (
  map-set_same handle_shape c.loop-i.handles.items c.loop-i.i c.take.new.self _ (c.take.ensures.same ∙ ap handle_shape c.index_mut.ensures.value) ∙ c.loop-i.invariant.0,
  map-set_same stolen c.loop-i.handles.items c.loop-i.i c.take.new.self _ (ap (λ (v : Account). v.taken) (c.in_default.ensures.rule ∙ ap handle_account c.index_mut.ensures.value)) ∙ c.loop-i.invariant.1,
  length-set c.loop-i.handles.items c.loop-i.i c.take.new.self ∙ c.loop-i.invariant.2,
)
