use Rattle.std.specs.Prelude.{◌≡◌, ◌+◌, ◌<◌, ◌≤◌, ℕ, List, vec_len, vec_capacity, get_or}
use Rattle.chr_log.specs.Events.{Entry}
use Rattle.chr_seats.specs.Accounts.{AreCounts, counts_in, made_upto}
use Rattle.chr_seats.proofs.seating.push_seats.Given as goal

abbrev pub invariant-loop-k : goal.invariant-loop-k
invariant-loop-k g l =
    ((l.posts.rest.parts + (l.from + l.k) ≡ 32) × (l.posts.rest.amount ≡ 0) × (l.others.rest.parts + (l.from + l.k) ≡ 32) × (l.others.rest.amount ≡ 0))
    × ((vec_len l.seats ≡ l.k) × (16 ≤ vec_capacity l.seats))
    × ((k : ℕ) (d : _) → k < l.k → (get_or l.seats.items k d).number ≡ l.from + k + 1)
    × ((log : List (Entry ℕ)) → AreCounts log l.counts → (k : ℕ) (d : _) → k < l.k → (get_or l.seats.items k d).counts ≡ counts_in log (l.from + k + 1))
    × ((log : List (Entry ℕ)) → AreCounts log l.counts → l.initial.posts.book.total ≡ (made_upto l.from log).posts → l.posts.book.total ≡ (made_upto (l.from + l.k) log).posts)
    × ((log : List (Entry ℕ)) → AreCounts log l.counts → l.initial.others.book.total ≡ (made_upto l.from log).others → l.others.book.total ≡ (made_upto (l.from + l.k) log).others)
