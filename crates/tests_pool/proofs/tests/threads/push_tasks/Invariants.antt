use Rattle.std.proofs.Common.{◌≡◌}
use Rattle.chr_pool.specs.Hands.{hand_id}
use Rattle.tests_pool.proofs.tests.threads.push_tasks.Given as goal

abbrev pub invariant-loop-k : goal.invariant-loop-k
invariant-loop-k l = hand_id l.hand ≡ hand_id l.initial.hand
