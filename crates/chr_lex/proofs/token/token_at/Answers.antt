use Rattle.chr_lex.proofs.Lexing.{fits_seen}
use Rattle.chr_lex.proofs.token.token_at.Goals as goal

pub returns-clause-fits : goal.returns-clause-fits
returns-clause-fits c = fits_seen c.args.after_operand c.args.text.now c.longest_at.result c.longest_at.ensures
