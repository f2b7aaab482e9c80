use Rattle.std.proofs.Common.{map, Some, ◌+◌, ◌*◌}
use Rattle.chr_value.specs.Atoms.{ground}
use Rattle.chr_rule.specs.Parts.{argument}
use Rattle.chr_guard.specs.Values.{term_under}
use Rattle.chr_guard.specs.Bindings.{Narrows}
use Rattle.chr_guard.proofs.Steps.{SoFar}
use Rattle.chr_guard.proofs.Under.{term_weight, weights}
use Rattle.chr_guard.proofs.matching.+fit.Given as goal

abbrev pub invariant-fit_terms-loop-i : goal.invariant-fit_terms-loop-i
invariant-fit_terms-loop-i g l = Narrows (SoFar term_under (map argument l.terms) (map (λ t. Some (ground t)) l.values) l.i) l.fn.binding l.binding

abbrev pub decreases-fit_term : goal.decreases-fit_term
decreases-fit_term g l = 2 * term_weight (argument l.term.now)

abbrev pub decreases-fit_terms : goal.decreases-fit_terms
decreases-fit_terms g l = 2 * weights (map argument l.terms.now) + 1
