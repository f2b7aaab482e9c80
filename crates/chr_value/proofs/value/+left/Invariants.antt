use Rattle.std.proofs.Common.{◌≡◌, ◌-◌, drop}
use Rattle.chr_value.specs.Atoms.{ground_comp, grounds}
use Rattle.chr_value.specs.Limits.{left_after}
use Rattle.chr_value.proofs.Left.{left_after_all}
use Rattle.chr_value.proofs.value.+left.Given as goal

abbrev pub invariant-Comp::left-loop-value : goal.invariant-Comp::left-loop-value
invariant-Comp::left-loop-value g l = left_after_all (l.depth - 1) l.rest (grounds (drop l.value-index l.value-items)) ≡ left_after l.depth l.room (ground_comp l.self)
