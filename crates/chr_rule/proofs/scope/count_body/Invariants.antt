use Rattle.std.proofs.Common.{◌≡◌, map, drop}
use Rattle.chr_rule.specs.Parts.{member}
use Rattle.chr_rule.specs.Scope.{known_after_body}
use Rattle.chr_rule.proofs.scope.count_body.Given as goal

abbrev pub invariant-loop-item : goal.invariant-loop-item
invariant-loop-item g l = known_after_body l.known (map member (drop l.item-index l.body)) ≡ known_after_body l.fn.known (map member l.body)
