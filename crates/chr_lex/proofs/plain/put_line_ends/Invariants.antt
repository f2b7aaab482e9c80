use Rattle.std.proofs.Common.{◌≡◌, ◌++◌, drop}
use Rattle.chr_lex.specs.Plain.{line_ends}
use Rattle.chr_lex.proofs.plain.put_line_ends.Given as goal

abbrev pub invariant-loop-b : goal.invariant-loop-b
invariant-loop-b g l = l.out.items ++ line_ends (drop l.b-index l.comment) ≡ l.initial.out.items ++ line_ends l.comment
