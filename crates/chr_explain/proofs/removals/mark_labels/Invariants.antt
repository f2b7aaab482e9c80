use Rattle.std.proofs.Common.{take}
use Rattle.chr_explain.specs.Reasons.{Marks}
use Rattle.chr_explain.proofs.removals.mark_labels.Given as goal

abbrev pub invariant-loop-label : goal.invariant-loop-label
invariant-loop-label l = Marks (take l.label-index l.labels) l.place l.initial.list l.list
