use Rattle.std.proofs.Common.{map, take}
use Rattle.std.specs.List.{AllByRecursion}
use Rattle.chr_rule.specs.Parts.{comparison}
use Rattle.chr_guard.specs.Values.{Holds}
use Rattle.chr_guard.specs.Bindings.{bound_at}
use Rattle.chr_guard.proofs.values.guard_holds.Given as goal

abbrev pub invariant-loop-test : goal.invariant-loop-test
invariant-loop-test g l = AllByRecursion (Holds (bound_at l.binding)) (map comparison (take l.test-index l.guard))
