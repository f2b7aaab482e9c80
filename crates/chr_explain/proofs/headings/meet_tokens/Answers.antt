use Rattle.std.proofs.Common.{refl, arith}
use Rattle.chr_lex.specs.Tokens.{lexeme}
use Rattle.chr_limits.specs.Views.{names}
use Rattle.chr_limits.proofs.Meeting.{meet_short}
use Rattle.chr_explain.specs.Headings.{lexeme_variables}
use Rattle.chr_explain.proofs.headings.meet_tokens.Goals as goal

pub returns-in_err-meet_token : goal.returns-in_err-meet_token
returns-in_err-meet_token c =
    rw c.from_residual.ensures (meet_short lexeme_variables lexeme (names c.loop-token.seen.items) _ _ c.args.tokens.now c.loop-token.token-index _ (omega arith) c.loop-token.invariant refl c.in_err-meet_token.ensures)
