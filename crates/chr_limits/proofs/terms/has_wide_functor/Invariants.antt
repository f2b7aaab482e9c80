use Rattle.std.proofs.Common.{◌≡◌, length, map}
use Rattle.chr_grammar.specs.Views.{node}
use Rattle.chr_limits.specs.Limits.{has_wide_functor}
use Rattle.chr_limits.proofs.terms.has_wide_functor.Given as goal

abbrev pub decreases-loop-rest : goal.decreases-loop-rest
decreases-loop-rest l = length l.rest

abbrev pub invariant-loop-rest : goal.invariant-loop-rest
invariant-loop-rest l = has_wide_functor (map node l.rest) ≡ has_wide_functor (map node l.nodes)
