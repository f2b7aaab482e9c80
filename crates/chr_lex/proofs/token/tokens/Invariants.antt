use Rattle.std.proofs.Common.{◌≡◌, zero, length, map}
use Rattle.chr_lex.specs.Items.{BeginsItem}
use Rattle.chr_lex.specs.Tokens.{lexeme, tokens_from, tokens_of}
use Rattle.chr_lex.proofs.Lexing.{with_front}
use Rattle.chr_lex.proofs.token.tokens.Given as goal

abbrev pub invariant-loop-rest : goal.invariant-loop-rest
invariant-loop-rest g l = (with_front (map lexeme l.tokens.items) (tokens_from zero l.after_operand l.rest) ≡ tokens_of l.text) × BeginsItem l.rest

abbrev pub decreases-loop-rest : goal.decreases-loop-rest
decreases-loop-rest g l = length l.rest
