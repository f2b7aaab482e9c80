use Rattle.std.proofs.Common.{arith, ap}
use Rattle.chr_limits.proofs.Meeting.{meet_turn, meet_short}
use Rattle.chr_limits.proofs.variables.meet_each.Goals as goal

pub returns-in_err-add_to : goal.returns-in_err-add_to
returns-in_err-add_to g c =
    rw c.from_residual.ensures (meet_short g.X.HasVariables.variables g.X.HasVariables.said (g.X.HasVariables.known c.loop-part.seen) _ _ c.args.parts.now c.loop-part.part-index c.part-item.result (omega arith) c.loop-part.invariant (ap (λ l. g.X.HasVariables.variables (g.X.HasVariables.said l)) c.part-item.is) c.in_err-add_to.ensures)

pub loop-part-preserved : goal.loop-part-preserved
loop-part-preserved g c =
    meet_turn g.X.HasVariables.variables g.X.HasVariables.said (g.X.HasVariables.known c.loop-part.seen) _ _ _ c.args.parts.now c.loop-part.part-index c.part-item.result (omega arith) c.loop-part.invariant (ap (λ l. g.X.HasVariables.variables (g.X.HasVariables.said l)) c.part-item.is) c.in_ok-add_to.ensures
