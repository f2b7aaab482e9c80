use Rattle.std.specs.Prelude.{◌≡◌, ℕ, ◌<◌, slice_get}
use Rattle.chr_crew.proofs.before.same_names.Given as goal

abbrev pub invariant-loop-number : goal.invariant-loop-number
invariant-loop-number g l = (k : ℕ) → k < l.number → slice_get l.names k ≡ slice_get l.others k
