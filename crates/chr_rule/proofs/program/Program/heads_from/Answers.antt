use Rattle.std.specs.Arc.{arc_value}
use Rattle.chr_rule.proofs.Index.{indexed, heads_listed}
use Rattle.chr_rule.proofs.program.Program.heads_from.Goals as goal

pub returns-clause-heads : goal.returns-clause-heads
returns-clause-heads g c =
    let found = c.heads_from.ensures in
    rw (← c.self.view_is, found.pred) (heads_listed _ _ (indexed arc_value c.self.inside.rules.items _ c.self.invariant) c.args.pred found.order c.args.rule c.args.head c.heads_from.result.rest found.fits found.rest)
