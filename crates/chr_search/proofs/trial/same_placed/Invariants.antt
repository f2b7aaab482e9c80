use Rattle.std.proofs.Common.{◌≡◌, map, take}
use Rattle.chr_search.specs.Placed.{placed_as}
use Rattle.chr_search.proofs.trial.same_placed.Given as goal

abbrev pub invariant-loop-i : goal.invariant-loop-i
invariant-loop-i g l = map placed_as (take l.i l.placed) ≡ map placed_as (take l.i l.other)
