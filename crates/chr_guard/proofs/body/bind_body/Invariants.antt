use Rattle.chr_guard.proofs.Matched.{Completing}
use Rattle.chr_guard.proofs.body.bind_body.Given as goal

abbrev pub invariant-loop-item : goal.invariant-loop-item
invariant-loop-item g l = Completing l.rule l.item-index l.fn.binding l.binding
