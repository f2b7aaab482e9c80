use Rattle.chr_rule.proofs.Written.{TellsSoFar}
use Rattle.chr_rule.proofs.words.same_words.Given as goal

abbrev pub invariant-loop-i : goal.invariant-loop-i
invariant-loop-i l = TellsSoFar l.same l.words l.others l.i
