use Rattle.std.proofs.Common.{◌≡◌, map, drop, flat_map}
use Rattle.chr_grammar.specs.Views.{term}
use Rattle.chr_limits.specs.Variables.{term_variables}
use Rattle.chr_limits.specs.Scope.{are_seen}
use Rattle.chr_limits.specs.Views.{names}
use Rattle.chr_limits.proofs.scope.are_terms_seen.Given as goal

abbrev pub invariant-loop-term : goal.invariant-loop-term
invariant-loop-term g l = are_seen (names l.seen) (flat_map term_variables (map term (drop l.term-index l.terms))) ≡ are_seen (names l.seen) (flat_map term_variables (map term l.terms))
