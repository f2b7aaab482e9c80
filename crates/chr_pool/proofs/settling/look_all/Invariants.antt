use Rattle.std.proofs.Common.{◌≡◌, ◌<◌, ℕ, length, map, get_or}
use Rattle.chr_pool.specs.declared.account.Account.{Account}
use Rattle.chr_pool.specs.OwnDeques.{own_account}
use Rattle.chr_pool.proofs.Settles.{Few}
use Rattle.chr_pool.proofs.settling.look_all.Given as goal

abbrev pub invariant-loop-i : goal.invariant-loop-i
invariant-loop-i g l =
    (map own_account l.owns.items ≡ map own_account l.initial.owns.items)
    × (length l.owns.items ≡ length l.initial.owns.items)
    × ((k : ℕ) → k < l.i → (d : Account) → Few (get_or (map own_account l.initial.owns.items) k d))
