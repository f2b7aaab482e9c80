use Rattle.std.proofs.Common.{map, take}
use Rattle.std.specs.List.{AllByRecursion}
use Rattle.chr_rule.proofs.parts.are_valid.Given as goal

abbrev pub invariant-loop-part : goal.invariant-loop-part
invariant-loop-part g l = AllByRecursion g.P.Part.IsValid (map g.P.Part.said (take l.part-index l.parts))
