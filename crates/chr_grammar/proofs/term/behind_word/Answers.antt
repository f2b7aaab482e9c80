use Rattle.std.proofs.Common.{map, true, false}
use Rattle.chr_lex.specs.Tokens.{word, lexeme}
use Rattle.chr_grammar.specs.Parsing.{is_functor}
use Rattle.chr_grammar.proofs.Lists.{from_place, behind_opened}
use Rattle.chr_grammar.proofs.term.behind_word.Goals as goal

pub returns-then-is_functor-clause-same : goal.returns-then-is_functor-clause-same
returns-then-is_functor-clause-same c =
    behind_opened (word c.args.name) c.args.depth c.args.from (map lexeme c.args.tokens.now) (from_place (is_functor (word c.args.name)) c.args.tokens.now c.args.from true c.if-is_functor.ensures)

pub returns-clause-same : goal.returns-clause-same
returns-clause-same c =
    rw (from_place (is_functor (word c.args.name)) c.args.tokens.now c.args.from false c.if-is_functor.ensures) c.next_argument.ensures.same
