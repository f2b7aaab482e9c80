use Rattle.std.proofs.Common.{◌≡◌, ◌≤◌, ◌+◌, length, map, drop, filter}
use Rattle.chr_limits.proofs.parts.count.Given as goal

abbrev pub invariant-loop-part : goal.invariant-loop-part
invariant-loop-part g l = record {
  fits : l.count ≤ l.part-index;
  all : l.count + length (filter (g.T.Test.passed l.test) (map g.T.Test.said (drop l.part-index l.parts))) ≡ length (filter (g.T.Test.passed l.test) (map g.T.Test.said l.parts));
}
