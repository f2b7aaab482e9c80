use Rattle.std.proofs.Common.{take, map}
use Rattle.std.specs.List.{AllByRecursion}
use Rattle.chr_text.proofs.named.are_named.Given as goal

abbrev pub invariant-loop-part : goal.invariant-loop-part
invariant-loop-part g l = AllByRecursion (g.X.Named.named l.count) (map g.X.Named.said (take l.part-index l.parts))
