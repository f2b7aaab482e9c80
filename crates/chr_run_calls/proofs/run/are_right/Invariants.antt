use Rattle.std.proofs.Common.{take}
use Rattle.chr_calls.specs.Batches.{AreRight}
use Rattle.chr_run_calls.proofs.run.are_right.Given as goal

abbrev pub invariant-loop-judged : goal.invariant-loop-judged
invariant-loop-judged g l = AreRight (take l.judged-index l.judgements)
