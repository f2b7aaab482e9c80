use Rattle.chr_search.specs.Placed.{placed_as}
use Rattle.chr_search.proofs.Placing.{ArePlacedBefore}
use Rattle.chr_search.proofs.trial.are_placed_in.Given as goal

abbrev pub invariant-loop-i : goal.invariant-loop-i
invariant-loop-i g l = ArePlacedBefore placed_as l.order l.store.entries l.placed l.i
