use Rattle.std.proofs.Common.{◌≡◌, map, drop}
use Rattle.chr_search.specs.Placed.{placed_as}
use Rattle.chr_search.specs.Verdicts.{label_at}
use Rattle.chr_search.proofs.trial.label_at.Given as goal

abbrev pub invariant-loop-one : goal.invariant-loop-one
invariant-loop-one g l = label_at (map placed_as l.placed) l.head ≡ label_at (map placed_as (drop l.one-index l.placed)) l.head
