use Rattle.std.proofs.Common.{map}
use Rattle.chr_rule.specs.Parts.{argument}
use Rattle.chr_guard.proofs.Matched.{Taking}
use Rattle.chr_guard.proofs.matching.bind_own.Given as goal

abbrev pub invariant-loop-i : goal.invariant-loop-i
invariant-loop-i g l = Taking (map argument l.terms) l.atom.args l.i l.fn.binding l.binding
