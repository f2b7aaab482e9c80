use Rattle.std.proofs.Common.{◌+◌, ◌*◌}
use Rattle.chr_rule.specs.Parts.{expression}
use Rattle.chr_guard.proofs.Under.{weight}
use Rattle.chr_guard.proofs.values.+nested.Given as goal

abbrev pub decreases-operation : goal.decreases-operation
decreases-operation g l = 2 * (weight (expression l.a.now) + weight (expression l.b.now))

abbrev pub decreases-nested : goal.decreases-nested
decreases-nested g l = 2 * (weight (expression l.a.now) + weight (expression l.b.now)) + 1
