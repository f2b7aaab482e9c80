use Rattle.std.proofs.Common.{map, take, IsSome}
use Rattle.chr_rule.specs.Parts.{argument}
use Rattle.chr_guard.specs.Values.{value_under}
use Rattle.chr_guard.specs.Bindings.{bound_at}
use Rattle.chr_guard.specs.Instances.{all_values}
use Rattle.chr_guard.proofs.binding.Binding.have_bound_values.Given as goal

abbrev pub invariant-loop-term : goal.invariant-loop-term
invariant-loop-term g l = IsSome (all_values (value_under (bound_at l.self)) (map argument (take l.term-index l.term-items)))
