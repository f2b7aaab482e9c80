use Rattle.std.proofs.Common.{map, take}
use Rattle.std.specs.List.{AllByRecursion}
use Rattle.chr_rule.specs.Parts.{argument}
use Rattle.chr_rule.specs.Terms.{IsCanonical}
use Rattle.chr_rule.proofs.term.+canonical.Given as goal

abbrev pub invariant-are_canonical-loop-term : goal.invariant-are_canonical-loop-term
invariant-are_canonical-loop-term g l = AllByRecursion IsCanonical (map argument (take l.term-index l.terms))
