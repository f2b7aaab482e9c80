use Rattle.std.proofs.Common.{◌≡◌, take}
use Rattle.chr_value.specs.Atoms.{grounds}
use Rattle.chr_value.proofs.value.+same.Given as goal

abbrev pub invariant-Comp::same-loop-i : goal.invariant-Comp::same-loop-i
invariant-Comp::same-loop-i g l = grounds (take l.i l.value-items) ≡ grounds (take l.i l.other.args.list.items)
