use Rattle.std.proofs.Common.{arith}
use Rattle.chr_crew.proofs.crew.count.Goals as goal

pub returns-clause-each : goal.returns-clause-each
returns-clause-each g c = λ right k d below. c.loop-k.invariant.2 k d (omega (arith, below, c.loop-k-test.false))
