use Rattle.std.proofs.Common.{◌≡◌, ◌+◌, ◌≤◌, ℕ, List, length, vec_capacity}
use Rattle.chr_session.specs.Devices.{Comes}
use Rattle.chr_session.proofs.Passed.{Kept}
use Rattle.chr_session.proofs.lines.read_counted.Given as goal

abbrev pub invariant-loop-taken : goal.invariant-loop-taken
invariant-loop-taken g l = record {
  bytes : (input : List ℕ) → Comes l.fn.buffer (g.S.Source.left l.fn.source) input → (rest : List ℕ) × Comes l.buffer (g.S.Source.left l.source) rest × Kept l._taken l.bytes.items rest input;
  count : length l.bytes.items ≡ l._taken;
  room : 65536 ≤ vec_capacity l.bytes;
  budget : g.S.Source.budget l.source + length l.buffer ≤ g.S.Source.budget l.fn.source + length l.fn.buffer;
  cause : g.S.Source.failures l.fn.source ≤ g.S.Source.failures l.source;
}
