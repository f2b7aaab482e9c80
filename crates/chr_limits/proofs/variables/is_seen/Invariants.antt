use Rattle.std.proofs.Common.{◌≡◌, drop, bytes_eq}
use Rattle.std.specs.List.{list_any}
use Rattle.chr_limits.specs.Views.{names}
use Rattle.chr_limits.proofs.variables.is_seen.Given as goal

abbrev pub invariant-loop-other : goal.invariant-loop-other
invariant-loop-other l = list_any (bytes_eq l.name) (names (drop l.other-index l.seen)) ≡ list_any (bytes_eq l.name) (names l.seen)
