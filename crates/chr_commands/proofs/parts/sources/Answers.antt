use Rattle.std.proofs.Common.{arith}
use Rattle.std.proofs.lemmas.Grind.{common_steps}
use Rattle.chr_commands.proofs.Counting.{counted-more, count-more}
use Rattle.chr_commands.proofs.parts.sources.Goals as goal

pub loop-i-preserved : goal.loop-i-preserved
loop-i-preserved c = record {
  kinds = grind (arith, common_steps);
  bytes = grind (arith, common_steps);
  counts = count-more _ _ _ _ c.in_ok-push.ensures.items c.loop-i.invariant.before c.part_of-part.ensures c.loop-i.invariant.counts;
  before = counted-more _ _ _ _ _ c.in_ok-push.ensures.items c.loop-i.invariant.before c.counted_after-before.ensures;
}
