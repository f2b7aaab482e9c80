use Rattle.std.proofs.Common.{map, Some, ◌+◌, ◌*◌}
use Rattle.chr_value.specs.Atoms.{ground}
use Rattle.chr_rule.specs.Parts.{argument}
use Rattle.chr_guard.specs.Values.{term_under}
use Rattle.chr_guard.specs.Bindings.{bound_at}
use Rattle.chr_guard.proofs.Steps.{SoFar}
use Rattle.chr_guard.proofs.Under.{term_weight, weights}
use Rattle.chr_guard.proofs.binding.Binding.+stands.Given as goal

abbrev pub invariant-stand_for-loop-i : goal.invariant-stand_for-loop-i
invariant-stand_for-loop-i g l = SoFar term_under (map argument l.terms) (map (λ t. Some (ground t)) l.values) l.i (bound_at l.self)

abbrev pub decreases-stands_for : goal.decreases-stands_for
decreases-stands_for g l = 2 * term_weight (argument l.term.now)

abbrev pub decreases-stand_for : goal.decreases-stand_for
decreases-stand_for g l = 2 * weights (map argument l.terms.now) + 1
