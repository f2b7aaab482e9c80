use Rattle.std.specs.Prelude.{◌≡◌, ◌+◌, ◌<◌, ◌≤◌, ℕ, get_or, length, vec_len, vec_capacity}
use Rattle.chr_seats.specs.Accounts.{log_of, counts_in}
use Rattle.chr_crew.proofs.crew.count.Given as goal

abbrev pub invariant-loop-k : goal.invariant-loop-k
invariant-loop-k g l =
    (vec_len l.counts ≡ l.k) × (length l.workers ≤ vec_capacity l.counts)
    × ((k : ℕ) (d : _) → k < l.k → get_or l.counts.items k d ≡ counts_in (log_of l.kept) (k + 1))
