use Rattle.std.proofs.Common.{◌≡◌, ◌<◌, ℕ, length, slice_index_or}
use Rattle.chr_guard.proofs.Bindings.{filler}
use Rattle.chr_guard.proofs.binding.Binding.copy.Given as goal

abbrev pub invariant-loop-variable : goal.invariant-loop-variable
invariant-loop-variable g l = record {
  variables : l.copy-inside.variables ≡ l.variable-end;
  full : length l.copy-inside.bound.items ≡ 24;
  items : (x : ℕ) → x < l.variable → slice_index_or l.copy-inside.bound.items x filler ≡ slice_index_or l.self-inside.bound.items x filler;
}
