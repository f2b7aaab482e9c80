use Rattle.std.proofs.Common.{map, Some}
use Rattle.chr_rule.specs.Parts.{argument}
use Rattle.chr_guard.specs.Values.{term_under}
use Rattle.chr_guard.specs.Bindings.{Narrows}
use Rattle.chr_guard.proofs.Steps.{SoFar}
use Rattle.chr_guard.proofs.matching.fit_many.Given as goal

abbrev pub invariant-loop-i : goal.invariant-loop-i
invariant-loop-i g l = Narrows (SoFar term_under (map argument l.terms) (map (λ t. Some t) l.atom.args) l.i) l.fn.binding l.binding
