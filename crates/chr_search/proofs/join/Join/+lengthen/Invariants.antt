use Rattle.std.proofs.Common.{length}
use Rattle.chr_search.proofs.join.Join.+lengthen.Given as goal

abbrev pub decreases-lengthen : goal.decreases-lengthen
decreases-lengthen g l = length l.below.now
