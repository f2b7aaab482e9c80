use Rattle.std.specs.Io.KnownBytes.{Keeps}
use Rattle.chr_session.proofs.streams.write_some.Given as goal

abbrev pub invariant-loop-turn : goal.invariant-loop-turn
invariant-loop-turn g l = Keeps (g.W.Write.contents l.fn.inner) (g.W.Write.contents l.inner)
