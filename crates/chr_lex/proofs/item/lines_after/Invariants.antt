use Rattle.std.proofs.Common.{◌≡◌, ◌+◌, ◌≤◌, length}
use Rattle.chr_lex.specs.Items.{lines_after}
use Rattle.chr_lex.proofs.item.lines_after.Given as goal

abbrev pub invariant-loop-rest : goal.invariant-loop-rest
invariant-loop-rest l = (lines_after l.rest l.line ≡ lines_after l.text l.fn.line) × (l.line + length l.rest ≤ l.fn.line + length l.text)

abbrev pub decreases-loop-rest : goal.decreases-loop-rest
decreases-loop-rest l = length l.rest
