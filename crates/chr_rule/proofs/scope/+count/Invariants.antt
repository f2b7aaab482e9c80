use Rattle.std.proofs.Common.{◌≡◌, map, drop}
use Rattle.chr_rule.specs.Parts.{argument}
use Rattle.chr_rule.specs.Scope.{known_after_args}
use Rattle.chr_rule.proofs.scope.+count.Given as goal

abbrev pub invariant-count_terms-loop-term : goal.invariant-count_terms-loop-term
invariant-count_terms-loop-term g l = known_after_args l.known (map argument (drop l.term-index l.terms)) ≡ known_after_args l.fn.known (map argument l.terms)
