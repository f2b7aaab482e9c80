use Rattle.std.proofs.Common.{◌≡◌, map, drop}
use Rattle.chr_grammar.specs.Views.{node}
use Rattle.chr_limits.specs.Variables.{term_variables}
use Rattle.chr_limits.specs.Scope.{are_seen}
use Rattle.chr_limits.specs.Views.{names}
use Rattle.chr_limits.proofs.scope.are_words_seen.Given as goal

abbrev pub invariant-loop-node : goal.invariant-loop-node
invariant-loop-node l = are_seen (names l.seen) (term_variables (map node (drop l.node-index l.nodes))) ≡ are_seen (names l.seen) (term_variables (map node l.nodes))
