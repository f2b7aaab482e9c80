use Rattle.std.specs.Prelude.{◌≡◌, ◌+◌, vec_len, sum_by}
use Rattle.chr_seats.proofs.seating.merge_all.Given as goal

abbrev pub invariant-loop-seat : goal.invariant-loop-seat
invariant-loop-seat g l =
    (l.posts.parts + vec_len l.seats ≡ l.initial.posts.parts + vec_len l.initial.seats)
    × (l.others.parts + vec_len l.seats ≡ l.initial.others.parts + vec_len l.initial.seats)
    × (l.posts.amount + sum_by (λ s. s.counts.posts) l.seats.items ≡ l.initial.posts.amount + sum_by (λ s. s.counts.posts) l.initial.seats.items)
    × (l.others.amount + sum_by (λ s. s.counts.others) l.seats.items ≡ l.initial.others.amount + sum_by (λ s. s.counts.others) l.initial.seats.items)

abbrev pub decreases-loop-seat : goal.decreases-loop-seat
decreases-loop-seat g l = vec_len l.seats
