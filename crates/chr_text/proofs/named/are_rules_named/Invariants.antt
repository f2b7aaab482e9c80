use Rattle.std.proofs.Common.{take, map}
use Rattle.std.specs.List.{AllByRecursion}
use Rattle.std.specs.Arc.{arc_value}
use Rattle.chr_text.specs.Named.{RuleIsNamed}
use Rattle.chr_text.proofs.named.are_rules_named.Given as goal

abbrev pub invariant-loop-rule : goal.invariant-loop-rule
invariant-loop-rule g l = AllByRecursion (RuleIsNamed l.count) (map arc_value (take l.rule-index l.rule-items))
