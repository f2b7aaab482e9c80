use Rattle.std.proofs.Common.{arith}
use Rattle.chr_rule.proofs.Written.{told_all, told_more}
use Rattle.chr_rule.proofs.words.same_words.Goals as goal

pub loop-i-preserved : goal.loop-i-preserved
loop-i-preserved c = told_more c.loop-i.same c.args.words.now c.args.others.now c.loop-i.i (omega arith) (omega arith) c.loop-i.invariant

pub returns : goal.returns
returns c = told_all c.loop-i.same c.args.words.now c.args.others.now c.loop-i.i (omega arith) (omega arith) c.loop-i.invariant
