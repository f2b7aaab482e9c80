use Rattle.std.proofs.Common.{◌≡◌, map, drop}
use Rattle.std.specs.List.{list_any}
use Rattle.chr_limits.proofs.parts.any.Given as goal

abbrev pub invariant-loop-part : goal.invariant-loop-part
invariant-loop-part g l = list_any (g.T.Test.passed l.test) (map g.T.Test.said (drop l.part-index l.parts)) ≡ list_any (g.T.Test.passed l.test) (map g.T.Test.said l.parts)
