use Rattle.std.proofs.Common.{take}
use Rattle.chr_commands.specs.Parts.{IsPartWith}
use Rattle.chr_commands.proofs.parts.part_with.Given as goal

abbrev pub invariant-loop-source : goal.invariant-loop-source
invariant-loop-source l = IsPartWith (take l.source-index l.log) l.fn.line l.found
