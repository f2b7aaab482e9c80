use Rattle.std.proofs.Common.{◌≡◌, map, take}
use Rattle.chr_rule.proofs.parts.are_same.Given as goal

abbrev pub invariant-loop-i : goal.invariant-loop-i
invariant-loop-i g l = map g.P.Part.said (take l.i l.parts) ≡ map g.P.Part.said (take l.i l.others)
