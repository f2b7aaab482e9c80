use Rattle.std.proofs.Common.{◌≡◌, ◌++◌, map, take, flat_map}
use Rattle.chr_rule.specs.Words.{words}
use Rattle.chr_rule.proofs.words.push_parts.Given as goal

abbrev pub invariant-loop-part : goal.invariant-loop-part
invariant-loop-part g l = words l.words.items ≡ words l.fn.words.items ++ flat_map g.P.Written.spelled (map g.P.Written.said (take l.part-index l.parts))
