use Rattle.std.proofs.Common.{◌↔◌, map, ◌+◌, ◌*◌}
use Rattle.chr_rule.specs.Parts.{argument}
use Rattle.chr_guard.specs.Bindings.{bound_at}
use Rattle.chr_guard.proofs.Under.{SameFrom, term_weight, weights}
use Rattle.chr_guard.proofs.binding.Binding.+same.Given as goal

abbrev pub invariant-all_same-loop-i : goal.invariant-all_same-loop-i
invariant-all_same-loop-i g l = SameFrom (bound_at l.self) l.terms l.others l.i ↔ SameFrom (bound_at l.self) l.terms l.others 0

abbrev pub decreases-same : goal.decreases-same
decreases-same g l = 2 * term_weight (argument l.s.now)

abbrev pub decreases-all_same : goal.decreases-all_same
decreases-all_same g l = 2 * weights (map argument l.terms.now) + 1
