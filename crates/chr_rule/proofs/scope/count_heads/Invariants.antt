use Rattle.std.proofs.Common.{◌≡◌, map, drop}
use Rattle.chr_rule.specs.Parts.{shape}
use Rattle.chr_rule.specs.Scope.{known_after_heads}
use Rattle.chr_rule.proofs.scope.count_heads.Given as goal

abbrev pub invariant-loop-head : goal.invariant-loop-head
invariant-loop-head g l = known_after_heads l.known (map shape (drop l.head-index l.heads)) ≡ known_after_heads l.fn.known (map shape l.heads)
