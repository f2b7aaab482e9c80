use Rattle.std.proofs.Common.{◌≡◌, ◌++◌, drop}
use Rattle.chr_picture.specs.Svg.{firings_text}
use Rattle.chr_picture.proofs.svg.put_firings.Given as goal

abbrev pub invariant-loop-firing : goal.invariant-loop-firing
invariant-loop-firing g l = l.out.items ++ firings_text l.rows l.layout (drop l.firing-index l.firings) ≡ l.fn.out.items ++ firings_text l.rows l.layout l.firings
