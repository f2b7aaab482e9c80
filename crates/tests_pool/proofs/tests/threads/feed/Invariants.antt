use Rattle.std.proofs.Common.{◌≡◌, map}
use Rattle.chr_pool.specs.Inlets.{inlet_id}
use Rattle.tests_pool.proofs.tests.threads.feed.Given as goal

abbrev pub invariant-loop-k : goal.invariant-loop-k
invariant-loop-k g l = map inlet_id l.inlets.items ≡ map inlet_id l.initial.inlets.items
