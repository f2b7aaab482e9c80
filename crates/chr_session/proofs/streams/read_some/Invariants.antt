use Rattle.std.specs.Io.KnownBytes.{Keeps}
use Rattle.chr_session.proofs.streams.read_some.Given as goal

abbrev pub invariant-loop-turn : goal.invariant-loop-turn
invariant-loop-turn g l = Keeps (g.R.Read.remaining l.fn.inner) (g.R.Read.remaining l.inner)
