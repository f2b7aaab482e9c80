use Rattle.std.proofs.Common.{◌≡◌, length, map, All, vec_capacity}
use Rattle.std.specs.Vec.Iter.{into_iter_items, into_iter_len}
use Rattle.chr_pool.specs.declared.account.Account.{Account}
use Rattle.chr_pool.specs.OwnDeques.{own_account}
use Rattle.chr_pool.proofs.Settles.{Few, Emptied}
use Rattle.chr_pool.proofs.settling.drain_all.Given as goal

abbrev pub invariant-loop-own : goal.invariant-loop-own
invariant-loop-own g l =
    (into_iter_len l.own-iterator ≡ length (into_iter_items l.own-iterator))
    × (vec_capacity l.left ≡ vec_capacity l.initial.left)
    × All (λ (v : Account). v.parts ≡ 64) (map own_account (into_iter_items l.own-iterator))
    × All Few (map own_account (into_iter_items l.own-iterator))
    × Emptied g.T.Numbered.number l.initial.left.items (map own_account (into_iter_items l.initial.own-iterator)) l.left.items (map own_account (into_iter_items l.own-iterator))
