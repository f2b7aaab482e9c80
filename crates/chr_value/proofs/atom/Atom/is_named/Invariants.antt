use Rattle.std.proofs.Common.{take}
use Rattle.std.specs.List.{AllByRecursion}
use Rattle.chr_value.specs.Atoms.{TermIsNamed}
use Rattle.chr_value.proofs.atom.Atom.is_named.Given as goal

abbrev pub invariant-loop-index : goal.invariant-loop-index
invariant-loop-index g l = AllByRecursion (TermIsNamed l.count) (take l.index l.self.args)
