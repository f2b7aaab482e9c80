use Rattle.std.proofs.Common.{map}
use Rattle.chr_guard.specs.Settled.{mark_view}
use Rattle.chr_guard.proofs.Steps.{Filling}
use Rattle.chr_guard.proofs.settled.Settled.fill.Given as goal

abbrev pub invariant-loop-variable : goal.invariant-loop-variable
invariant-loop-variable g l = Filling (map mark_view l.mark-items) l.variable l.fn.binding l.binding
