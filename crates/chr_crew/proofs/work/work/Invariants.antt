use Rattle.std.specs.Prelude.{◌≡◌}
use Rattle.chr_pool.specs.Hands.{hand_id}
use Rattle.chr_crew.specs.Pools.{HasPushedOn}
use Rattle.chr_crew.proofs.work.work.Given as goal

abbrev pub invariant-loop : goal.invariant-loop
invariant-loop g l = record {
  same : hand_id l.hand ≡ hand_id l.initial.hand;
  pushed : HasPushedOn l.initial.hand l.hand;
  number : l.seat.number ≡ l.initial.seat.number;
  posts : l.seat.counts.posts ≡ l.initial.seat.counts.posts;
}
