use Rattle.std.proofs.Common.{◌≡◌, map, drop}
use Rattle.std.specs.List.{list_all}
use Rattle.chr_rule.specs.Parts.{comparison}
use Rattle.chr_rule.specs.Scope.{test_known}
use Rattle.chr_rule.proofs.scope.is_guard_known.Given as goal

abbrev pub invariant-loop-comparison : goal.invariant-loop-comparison
invariant-loop-comparison g l = list_all (test_known l.known) (map comparison (drop l.comparison-index l.guard)) ≡ list_all (test_known l.known) (map comparison l.guard)
