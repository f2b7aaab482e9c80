use Rattle.std.proofs.Common.{◌-◌, ◌≤◌}
use Rattle.chr_solo.specs.SoloCode.{known_of, SoloSoFar}
use Rattle.chr_solo.proofs.solo.make_calls.Given as goal

abbrev pub invariant-loop-calls : goal.invariant-loop-calls
invariant-loop-calls g l = SoloSoFar l.seat l.fn.book l.calls l.book (known_of l.known) × (l.calls ≤ l.most)

abbrev pub decreases-loop-calls : goal.decreases-loop-calls
decreases-loop-calls g l = l.most - l.calls
