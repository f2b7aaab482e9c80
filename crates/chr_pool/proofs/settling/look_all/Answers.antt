use Rattle.std.proofs.Common.{◌≡◌, ◌<◌, length, map, get_or, sym, ap, ◌∙◌, subst, arith}
use Rattle.std.proofs.lemmas.List.{length-set, length-map, get_or-map}
use Rattle.chr_pool.specs.declared.account.Account.{Account}
use Rattle.chr_pool.specs.OwnDeques.{own_account}
use Rattle.std.proofs.Math.Seq.{map-set_same}
use borrow.Author.Count.{below_more}
use Rattle.chr_pool.proofs.Settles.{Few}
use Rattle.chr_pool.proofs.settling.look_all.Goals as goal

pub look-requires : goal.look-requires
look-requires g c =
    let v = own_account c.index_mut.result.now in
    let here : get_or (map own_account c.args.owns.now.items) c.loop-i.i v ≡ v =
    ap (λ l. get_or l c.loop-i.i v) (sym c.loop-i.invariant.0) ∙ (get_or-map own_account c.loop-i.owns.items c.loop-i.i _ v (omega arith) ∙ ap own_account (sym c.index_mut.ensures.value)) in
    let within : c.loop-i.i < length (map own_account c.args.owns.now.items) = let s = c.loop-i.invariant.1 in omega (arith, s, length-map c.args.owns.now.items (own_account {T = g.row.T.Denot})) in
    sym (ap (λ (a : Account). a.parts) here) ∙ c.requires c.loop-i.i v within

pub loop-i-preserved : goal.loop-i-preserved
loop-i-preserved g c =
    let v = own_account c.index_mut.result.now in
    let here : (d : Account) → get_or (map own_account c.args.owns.now.items) c.loop-i.i d ≡ v = λ d.
    ap (λ l. get_or l c.loop-i.i d) (sym c.loop-i.invariant.0) ∙ (get_or-map own_account c.loop-i.owns.items c.loop-i.i _ d (omega arith) ∙ ap own_account (sym c.index_mut.ensures.value)) in (
      map-set_same own_account c.loop-i.owns.items c.loop-i.i c.look.new.self _ (c.look.ensures.same.1 ∙ ap own_account c.index_mut.ensures.value) ∙ c.loop-i.invariant.0,
      length-set c.loop-i.owns.items c.loop-i.i c.look.new.self ∙ c.loop-i.invariant.1,
      below_more (λ k. (d : Account) → Few (get_or (map own_account c.args.owns.now.items) k d)) c.loop-i.i c.loop-i.invariant.2 (λ d. subst Few (sym (here d)) c.look.ensures.rule),
    )
