use Rattle.std.proofs.Common.{◌≡◌, map}
use Rattle.chr_search.specs.Placed.{placed_as}
use Rattle.chr_search.specs.Verdicts.{labels_from}
use Rattle.chr_search.proofs.trial.labels_from.Given as goal

abbrev pub invariant-loop-i : goal.invariant-loop-i
invariant-loop-i g l = l.labels.items ≡ labels_from (map placed_as l.placed) l.first l.i
