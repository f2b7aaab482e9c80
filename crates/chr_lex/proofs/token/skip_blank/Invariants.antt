use Rattle.std.proofs.Common.{◌≡◌, ◌≤◌, zero, length, Bool}
use Rattle.chr_lex.specs.Tokens.{tokens_from}
use Rattle.chr_lex.proofs.token.skip_blank.Given as goal

abbrev pub invariant-loop-rest : goal.invariant-loop-rest
invariant-loop-rest l = ((op : Bool) → tokens_from zero op l.text ≡ tokens_from zero op l.rest) × (length l.rest ≤ length l.text)

abbrev pub decreases-loop-rest : goal.decreases-loop-rest
decreases-loop-rest l = length l.rest
