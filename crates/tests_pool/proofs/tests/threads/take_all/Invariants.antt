use Rattle.std.proofs.Common.{◌≡◌}
use Rattle.chr_pool.specs.Hands.{hand_id}
use Rattle.tests_pool.proofs.tests.threads.take_all.Given as goal

abbrev pub invariant-loop : goal.invariant-loop
invariant-loop g l = hand_id l.hand ≡ hand_id l.initial.hand
