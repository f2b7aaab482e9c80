use Rattle.std.proofs.Common.{◌≡◌, ◌∷◌, length, map, vec_capacity, ap, ◌∙◌, arith}
use Rattle.std.specs.Vec.Iter.{into_iter_items}
use Rattle.std.proofs.lemmas.List.Elements.{All-tail}
use Rattle.chr_pool.specs.declared.account.Account.{Account}
use Rattle.chr_pool.specs.OwnDeques.{own_account}
use Rattle.chr_pool.proofs.Settles.{Few, emptied_room, emptied_more}
use Rattle.chr_pool.proofs.settling.drain_all.Goals as goal

abbrev Whole : Account → Type 0
Whole v = v.parts ≡ 64

pub drain-requires-clause-room : goal.drain-requires-clause-room
drain-requires-clause-room g c =
    let at = c.loop-own in
    let was = c.args.left.now in
    let few = rw c.in-Some.ensures.steps.0 at at.invariant.3 in
    let turn = rw (c.in-Some.ensures.steps.0, c.into_iter-own-iterator.ensures.into_iter_gives.0) at at.invariant.4 in
    let r = emptied_room g.T.Numbered.number was.items (map own_account c.args.owns.items) at.left.items _ _ (vec_capacity was) turn few (omega (arith, c.requires.room, was.ok.0)) in
    omega (arith, r, at.invariant.1, at.left.ok.0)

pub loop-own-preserved : goal.loop-own-preserved
loop-own-preserved g c =
    let at = c.loop-own in
    let v = own_account c.in-Some.own in
    let vs = map own_account (into_iter_items c.next.new.self) in
    let start = map own_account (into_iter_items c.into_iter-own-iterator.result) in
    let steps : into_iter_items at.own-iterator ≡ c.in-Some.own ∷ into_iter_items c.next.new.self = c.in-Some.ensures.steps.0 in (
      (let n = at.invariant.0 in let gone = c.in-Some.ensures.steps.1 in let short = ap length steps in omega arith),
      c.drain.ensures.capacity ∙ at.invariant.1,
      All-tail Whole v vs (rw steps at at.invariant.2),
      All-tail Few v vs (rw steps at at.invariant.3),
      emptied_more g.T.Numbered.number c.args.left.now.items start at.left.items c.drain.new.left.items v vs (rw steps at at.invariant.4) c.drain.ensures.rule,
    )
