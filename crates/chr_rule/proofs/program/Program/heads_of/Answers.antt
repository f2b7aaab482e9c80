use Rattle.std.specs.Arc.{arc_value}
use Rattle.chr_rule.proofs.Index.{indexed, all_listed}
use Rattle.chr_rule.proofs.program.Program.heads_of.Goals as goal

pub returns-clause-heads : goal.returns-clause-heads
returns-clause-heads g c =
    let found = c.heads_of.ensures in
    rw (← c.self.view_is, found.pred, found.rest) (all_listed _ _ (indexed arc_value c.self.inside.rules.items _ c.self.invariant) c.args.pred (rw found.rest at found.order))
