use Rattle.std.specs.Prelude.{◌≡◌}
use Rattle.chr_serve.proofs.connections.Live.take_waiting.Given as goal

abbrev pub invariant-loop-key : goal.invariant-loop-key
invariant-loop-key g l = l.self ≡ l.initial.self
