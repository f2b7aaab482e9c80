use Rattle.std.specs.Prelude.{◌≡◌}
use Rattle.chr_pool.specs.Inlets.{inlet_id}
use Rattle.chr_shared_desk.proofs.shared_desk.hand_out.Given as goal

abbrev pub invariant-loop-k : goal.invariant-loop-k
invariant-loop-k g l = inlet_id l.inlet ≡ inlet_id l.initial.inlet
