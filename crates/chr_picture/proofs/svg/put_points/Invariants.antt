use Rattle.std.proofs.Common.{◌≡◌, ◌++◌, drop}
use Rattle.chr_picture.specs.Svg.{points}
use Rattle.chr_picture.proofs.svg.put_points.Given as goal

abbrev pub invariant-loop-label : goal.invariant-loop-label
invariant-loop-label g l = l.out.items ++ points l.rows l.x (drop l.label-index l.labels) ≡ l.fn.out.items ++ points l.rows l.x l.labels
