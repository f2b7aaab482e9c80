use Rattle.std.proofs.Common.{◌≡◌, ◌++◌, drop}
use Rattle.chr_picture.specs.Svg.{names}
use Rattle.chr_picture.proofs.svg.put_names.Given as goal

abbrev pub invariant-loop-label : goal.invariant-loop-label
invariant-loop-label g l = l.out.items ++ names (drop l.label-index l.labels) ≡ l.fn.out.items ++ names l.labels
