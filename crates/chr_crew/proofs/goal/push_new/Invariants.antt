use Rattle.std.specs.Prelude.{◌≡◌}
use Rattle.chr_pool.specs.Hands.{hand_id}
use Rattle.chr_crew.specs.Pools.{HasPushedOn}
use Rattle.chr_crew.proofs.goal.push_new.Given as goal

abbrev pub invariant-loop-k : goal.invariant-loop-k
invariant-loop-k g l = record {
  same : hand_id l.hand ≡ hand_id l.initial.hand;
  pushed : HasPushedOn l.initial.hand l.hand;
}
