use Rattle.std.proofs.Common.{◌≡◌, length}
use Rattle.chr_search.specs.Joined.{join_of}
use Rattle.chr_search.proofs.AtHeads.{ArePut}
use Rattle.chr_search.proofs.at_heads.put_at_heads.Given as goal

abbrev pub invariant-loop-i : goal.invariant-loop-i
invariant-loop-i g l = (length l.heads ≡ length l.labels) × ArePut (join_of l.join) l.labels l.i l.heads
