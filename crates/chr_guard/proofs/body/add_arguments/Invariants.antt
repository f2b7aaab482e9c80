use Rattle.std.proofs.Common.{◌≡◌, ◌≤◌, length, map, take, Some}
use Rattle.chr_rule.specs.Parts.{argument}
use Rattle.chr_guard.specs.Values.{value_under}
use Rattle.chr_guard.specs.Bindings.{bound_at}
use Rattle.chr_guard.specs.Instances.{all_values}
use Rattle.chr_guard.proofs.body.add_arguments.Given as goal

abbrev pub invariant-loop-term : goal.invariant-loop-term
invariant-loop-term g l = record { name : l.atom.name ≡ l.pattern.name.number; args : all_values (value_under (bound_at l.binding)) (map argument (take l.term-index l.term-items)) ≡ Some l.atom.args; few : length l.atom.args ≤ l.term-index }
