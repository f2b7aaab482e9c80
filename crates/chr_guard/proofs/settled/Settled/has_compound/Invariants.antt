use Rattle.std.proofs.Common.{◌≡◌, map, drop}
use Rattle.std.specs.List.{list_any}
use Rattle.chr_guard.specs.Settled.{mark_view, is_compound}
use Rattle.chr_guard.proofs.settled.Settled.has_compound.Given as goal

abbrev pub invariant-loop-mark : goal.invariant-loop-mark
invariant-loop-mark g l = list_any is_compound (map mark_view (drop l.mark-index l.mark-items)) ≡ list_any is_compound (map mark_view l.mark-items)
