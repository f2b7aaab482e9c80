use Rattle.std.proofs.Common.{◌≡◌, vec_capacity}
use Rattle.chr_pool.specs.OwnDeques.{own_account}
use Rattle.chr_pool.proofs.Settles.{Turn}
use Rattle.chr_pool.proofs.own_deque.OwnDeque.drain.Given as goal

abbrev pub invariant-loop : goal.invariant-loop
invariant-loop g l =
    ((own_account l.self).parts ≡ 64)
    × ((own_account l.self).pushed ≡ (own_account l.initial.self).pushed)
    × (vec_capacity l.left ≡ vec_capacity l.initial.left)
    × Turn g.T.Numbered.number l.initial.left.items (own_account l.initial.self) l.left.items (own_account l.self)
