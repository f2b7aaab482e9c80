use Rattle.std.proofs.Common.{◌+◌, ◌≤◌, ℕ, List, length, vec_capacity}
use Rattle.chr_session.specs.Devices.{Comes}
use Rattle.chr_session.proofs.Passed.{Begun}
use Rattle.chr_session.proofs.lines.read_line.Given as goal

abbrev pub invariant-loop-byte : goal.invariant-loop-byte
invariant-loop-byte g l = record {
  line : (input : List ℕ) → Comes l.fn.buffer (g.S.Source.left l.fn.source) input → (rest : List ℕ) × Comes l.buffer (g.S.Source.left l.source) rest × Begun l.line.items rest input;
  short : length l.line.items ≤ 4097;
  room : 65536 ≤ vec_capacity l.line;
  budget : g.S.Source.budget l.source + length l.buffer + length l.line.items ≤ g.S.Source.budget l.fn.source + length l.fn.buffer;
  cause : g.S.Source.failures l.fn.source ≤ g.S.Source.failures l.source;
}

abbrev pub decreases-loop-byte : goal.decreases-loop-byte
decreases-loop-byte g l = g.S.Source.budget l.source + length l.buffer
