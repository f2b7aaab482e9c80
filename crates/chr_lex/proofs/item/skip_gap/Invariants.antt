use Rattle.std.proofs.Common.{◌≡◌, ◌+◌, ◌≤◌, zero, length}
use Rattle.chr_lex.specs.Items.{items}
use Rattle.chr_lex.proofs.item.skip_gap.Given as goal

abbrev pub invariant-loop-rest : goal.invariant-loop-rest
invariant-loop-rest l = (items zero l.fn.line l.text ≡ items zero l.line l.rest) × (l.line + length l.rest ≤ l.fn.line + length l.text) × (length l.rest ≤ length l.text)

abbrev pub decreases-loop-rest : goal.decreases-loop-rest
decreases-loop-rest l = length l.rest
