use Rattle.chr_lex.proofs.Lexing.{read_longest, longest_read, none_spelled}
use Rattle.chr_lex.proofs.laws.the_longest_token.Goals as goal

pub returns : goal.returns
returns c = record { found = read_longest; only = longest_read; none = none_spelled }
