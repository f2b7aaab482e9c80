use Rattle.std.specs.Prelude.{◌≡◌, ◌≤◌}
use Rattle.chr_shared_desk.proofs.waiting.wait.Given as goal

abbrev pub invariant-loop-look : goal.invariant-loop-look
invariant-loop-look g l = (l.watch.0 ≡ l.initial.watch.0) × (l.watch.1 ≤ l._look)
