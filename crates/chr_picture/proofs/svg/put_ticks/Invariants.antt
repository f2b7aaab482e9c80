use Rattle.std.proofs.Common.{◌≡◌, ◌++◌, ◌-◌}
use Rattle.chr_picture.specs.Svg.{ticks}
use Rattle.chr_picture.proofs.svg.put_ticks.Given as goal

abbrev pub invariant-loop-column : goal.invariant-loop-column
invariant-loop-column g l = l.out.items ++ ticks l.layout l.every l.bottom l.column (l.layout.count - l.column) ≡ l.fn.out.items ++ ticks l.layout l.every l.bottom 0 l.layout.count
