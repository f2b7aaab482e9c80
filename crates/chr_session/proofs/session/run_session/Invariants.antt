use Rattle.std.proofs.Common.{◌+◌, ◌≤◌, ℕ, List, length, vec_capacity}
use Rattle.chr_session.specs.Devices.{Comes}
use Rattle.chr_session.proofs.Underway.{Underway}
use Rattle.chr_session.proofs.session.run_session.Given as goal

abbrev pub invariant-session : goal.invariant-session
invariant-session g l = record {
  underway : (input : List ℕ) → g.S.Source.left l.fn.reader input → Underway g.D.Desk.step l.fn.desk l.desk (g.W.Sink.taken l.fn.writer) (g.W.Sink.taken l.writer) (Comes l.buffer (g.S.Source.left l.reader)) input;
  line_room : 65536 ≤ vec_capacity l.line;
  text_room : 65536 ≤ vec_capacity l.text;
  read_cause : g.S.Source.failures l.fn.reader ≤ g.S.Source.failures l.reader;
  write_cause : g.W.Sink.failures l.fn.writer ≤ g.W.Sink.failures l.writer;
}

abbrev pub decreases-session : goal.decreases-session
decreases-session g l = g.S.Source.budget l.reader + length l.buffer
