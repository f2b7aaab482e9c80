use Rattle.std.proofs.Common.{◌+◌, ◌≤◌, ℕ, List, length}
use Rattle.chr_session.specs.Devices.{Comes}
use Rattle.chr_session.proofs.Passed.{SameEnd}
use Rattle.chr_session.proofs.lines.skip_line.Given as goal

abbrev pub invariant-loop-byte : goal.invariant-loop-byte
invariant-loop-byte g l = record {
  line : (input : List ℕ) → Comes l.fn.buffer (g.S.Source.left l.fn.source) input → (rest : List ℕ) × Comes l.buffer (g.S.Source.left l.source) rest × SameEnd rest input;
  budget : g.S.Source.budget l.source + length l.buffer ≤ g.S.Source.budget l.fn.source + length l.fn.buffer;
  cause : g.S.Source.failures l.fn.source ≤ g.S.Source.failures l.source;
}

abbrev pub decreases-loop-byte : goal.decreases-loop-byte
decreases-loop-byte g l = g.S.Source.budget l.source + length l.buffer
