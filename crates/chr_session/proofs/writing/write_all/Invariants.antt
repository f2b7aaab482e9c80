use Rattle.std.proofs.Common.{◌≤◌, ◌-◌, length, take}
use Rattle.chr_session.specs.Replies.{Wrote}
use Rattle.chr_session.proofs.writing.write_all.Given as goal

abbrev pub invariant-loop-at : goal.invariant-loop-at
invariant-loop-at g l = record {
  within : l.at ≤ length l.bytes;
  written : Wrote (g.W.Sink.taken l.fn.sink) (g.W.Sink.taken l.sink) (take l.at l.bytes);
  cause : g.W.Sink.failures l.fn.sink ≤ g.W.Sink.failures l.sink;
}

abbrev pub decreases-loop-at : goal.decreases-loop-at
decreases-loop-at g l = length l.bytes - l.at
