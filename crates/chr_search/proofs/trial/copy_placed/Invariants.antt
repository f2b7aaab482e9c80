use Rattle.std.proofs.Common.{◌≡◌, map, take}
use Rattle.chr_search.specs.Placed.{placed_as}
use Rattle.chr_search.proofs.trial.copy_placed.Given as goal

abbrev pub invariant-loop-one : goal.invariant-loop-one
invariant-loop-one g l = map placed_as l.made.items ≡ map placed_as (take l.one-index l.placed)
