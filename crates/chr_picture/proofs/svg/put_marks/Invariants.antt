use Rattle.std.proofs.Common.{◌≡◌, ◌++◌, drop}
use Rattle.chr_picture.specs.Svg.{marks}
use Rattle.chr_picture.proofs.svg.put_marks.Given as goal

abbrev pub invariant-loop-label : goal.invariant-loop-label
invariant-loop-label g l = l.out.items ++ marks l.rows l.fill l.x (drop l.label-index l.labels) ≡ l.fn.out.items ++ marks l.rows l.fill l.x l.labels
