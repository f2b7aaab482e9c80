use Rattle.std.proofs.Common.{◌≡◌, map, drop}
use Rattle.std.specs.List.{list_all}
use Rattle.chr_rule.specs.Parts.{argument}
use Rattle.chr_rule.specs.Scope.{argument_known}
use Rattle.chr_rule.proofs.term.+known.Given as goal

abbrev pub invariant-are_known-loop-term : goal.invariant-are_known-loop-term
invariant-are_known-loop-term g l = list_all (argument_known l.known) (map argument (drop l.term-index l.terms)) ≡ list_all (argument_known l.known) (map argument l.terms)
