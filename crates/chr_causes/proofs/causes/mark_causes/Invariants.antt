use Rattle.chr_log.specs.Events.{events_of}
use Rattle.chr_causes.proofs.Marked.{Traced}
use Rattle.chr_causes.proofs.causes.mark_causes.Given as goal

abbrev pub invariant-loop-place : goal.invariant-loop-place
invariant-loop-place g l = Traced l.program (events_of l.events) l.label l.place l.marks.items
