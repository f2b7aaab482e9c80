use Rattle.std.proofs.Common.{take}
use Rattle.std.specs.List.{AllByRecursion}
use Rattle.chr_value.specs.Atoms.{TermIsNamed, grounds}
use Rattle.chr_value.proofs.value.+named.Given as goal

abbrev pub invariant-Comp::is_named-loop-value : goal.invariant-Comp::is_named-loop-value
invariant-Comp::is_named-loop-value g l = AllByRecursion (TermIsNamed l.count) (grounds (take l.value-index l.value-items))
