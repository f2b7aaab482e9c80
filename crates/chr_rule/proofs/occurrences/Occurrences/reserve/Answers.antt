use Rattle.chr_rule.proofs.Index.{keeps_both}
use Rattle.chr_rule.proofs.occurrences.Occurrences.reserve.Goals as goal

pub returns-in_err-reserve_row-clause-keeps : goal.returns-in_err-reserve_row-clause-keeps
returns-in_err-reserve_row-clause-keeps g c = keeps_both c.args.self.now c.loop-head.self c.reserve_row.new.self c.loop-head.invariant.keeps c.reserve_row.ensures.keeps
