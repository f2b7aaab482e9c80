use Rattle.std.proofs.Common.{◌≡◌, map, drop, flat_map}
use Rattle.chr_grammar.specs.Views.{test}
use Rattle.chr_limits.specs.Variables.{test_variables}
use Rattle.chr_limits.specs.Scope.{are_seen}
use Rattle.chr_limits.specs.Views.{names}
use Rattle.chr_limits.proofs.scope.is_guard_seen.Given as goal

abbrev pub invariant-loop-test : goal.invariant-loop-test
invariant-loop-test g l = are_seen (names l.seen) (flat_map test_variables (map test (drop l.test-index l.guard))) ≡ are_seen (names l.seen) (flat_map test_variables (map test l.guard))
