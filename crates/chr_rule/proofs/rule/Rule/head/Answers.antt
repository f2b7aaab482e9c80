use Rattle.std.proofs.Common.{arith}
use Rattle.chr_rule.proofs.Index.{head_there}
use Rattle.chr_rule.proofs.rule.Rule.head.Goals as goal

pub head_at-requires : goal.head_at-requires
head_at-requires g c = head_there c.args.self.now c.args.number (omega (arith, c.if-number-eq0.false)) (omega (arith, c.heads.ensures.count, c.if-heads-number.false))
