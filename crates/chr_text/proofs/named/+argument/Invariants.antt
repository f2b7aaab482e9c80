use Rattle.std.proofs.Common.{take, map}
use Rattle.std.specs.List.{AllByRecursion}
use Rattle.chr_rule.specs.Parts.{argument}
use Rattle.chr_text.specs.Named.{ArgumentIsNamed}
use Rattle.chr_text.proofs.named.+argument.Given as goal

abbrev pub invariant-are_arguments_named-loop-term : goal.invariant-are_arguments_named-loop-term
invariant-are_arguments_named-loop-term g l = AllByRecursion (ArgumentIsNamed l.count) (map argument (take l.term-index l.terms))
