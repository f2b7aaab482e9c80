use Rattle.std.proofs.Common.{map, take}
use Rattle.std.specs.List.{AllByRecursion}
use Rattle.chr_rule.specs.Parts.{argument}
use Rattle.chr_guard.specs.Bindings.{IsBound}
use Rattle.chr_guard.proofs.binding.Binding.are_bound_terms.Given as goal

abbrev pub invariant-loop-term : goal.invariant-loop-term
invariant-loop-term g l = AllByRecursion (IsBound l.self) (map argument (take l.term-index l.terms))
