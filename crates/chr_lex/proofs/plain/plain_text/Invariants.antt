use Rattle.std.proofs.Common.{◌≡◌, ◌+◌, ◌≤◌, ◌++◌, length}
use Rattle.chr_lex.specs.Plain.{plain_of}
use Rattle.chr_lex.proofs.plain.plain_text.Given as goal

abbrev pub invariant-loop-rest : goal.invariant-loop-rest
invariant-loop-rest g l = (l.out.items ++ plain_of l.rest ≡ plain_of l.fn.text) × (length l.out.items + length l.rest ≤ length l.fn.text)

abbrev pub decreases-loop-rest : goal.decreases-loop-rest
decreases-loop-rest g l = length l.rest
