use Rattle.std.proofs.Common.{◌≡◌, ◌+◌, drop, bytes_eq}
use Rattle.std.specs.List.{position_or_len}
use Rattle.chr_limits.specs.Views.{names}
use Rattle.chr_text.proofs.variables.place_of.Given as goal

abbrev pub invariant-loop-place : goal.invariant-loop-place
invariant-loop-place l = l.place + position_or_len (bytes_eq l.name) (names (drop l.place l.seen)) ≡ position_or_len (bytes_eq l.name) (names l.seen)
