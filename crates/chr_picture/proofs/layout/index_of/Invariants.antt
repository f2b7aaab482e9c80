use Rattle.std.proofs.Common.{◌≡◌, ◌+◌, drop}
use Rattle.chr_picture.specs.Layouts.{pair_of, pairs_of, index_of}
use Rattle.chr_picture.proofs.layout.index_of.Given as goal

abbrev pub invariant-loop-place : goal.invariant-loop-place
invariant-loop-place l = l.place + index_of (pairs_of (drop l.place l.preds)) (pair_of l.pred) ≡ index_of (pairs_of l.preds) (pair_of l.pred)
