use Rattle.std.proofs.Common.{◌≡◌, ◌++◌, drop}
use Rattle.chr_picture.specs.Layouts.{pairs_of}
use Rattle.chr_picture.specs.Svg.{legend}
use Rattle.chr_picture.proofs.svg.put_legend.Given as goal

abbrev pub invariant-loop-place : goal.invariant-loop-place
invariant-loop-place g l = l.out.items ++ legend l.names l.layout l.top l.place (pairs_of (drop l.place l.preds)) ≡ l.fn.out.items ++ legend l.names l.layout l.top 0 (pairs_of l.preds)
