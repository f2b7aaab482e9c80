use Rattle.std.proofs.Common.{take}
use Rattle.chr_causes.specs.Marks.{Adds}
use Rattle.chr_causes.proofs.causes.mark_labels.Given as goal

abbrev pub invariant-loop-label : goal.invariant-loop-label
invariant-loop-label l = Adds (take l.label-index l.labels) l.initial.marks l.marks
