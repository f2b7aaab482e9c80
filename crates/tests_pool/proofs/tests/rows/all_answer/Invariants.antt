use Rattle.std.proofs.Common.{◌≡◌, map}
use Rattle.chr_pool.specs.Hands.{hand_id}
use Rattle.chr_pool.specs.Inlets.{inlet_id}
use Rattle.tests_pool.proofs.tests.rows.all_answer.Given as goal

abbrev pub invariant-loop-text : goal.invariant-loop-text
invariant-loop-text g l = (map hand_id l.hands.items ≡ map hand_id l.initial.hands.items) × (map inlet_id l.inlets.items ≡ map inlet_id l.initial.inlets.items)
