use Rattle.std.proofs.Common.{map}
use Rattle.chr_lex.specs.Tokens.{lexeme}
use Rattle.chr_grammar.specs.Views.{formula}
use Rattle.chr_grammar.specs.Parsing.{operator_of, side_at, sum_at}
use Rattle.chr_grammar.proofs.Lists.{sum_steps, chain_steps}
use Rattle.chr_grammar.proofs.expression.+expression.Goals as goal

pub sum-returns : goal.sum-returns
sum-returns g t c = rw (sum_steps c.args.room (map lexeme c.args.tokens.now) c.if-room-eq0.false) c.sides.ensures

pub more_sides-returns-in_ok-both-in-Some : goal.more_sides-returns-in_ok-both-in-Some
more_sides-returns-in_ok-both-in-Some g t c =
    rw (chain_steps (operator_of c.args.level) (side_at c.args.level (sum_at c.args.room)) c.args.count (formula c.args.left) (formula c.in_ok-right-in-Some.right) (formula c.in_ok-both-in-Some.both) c.in-Some.operator c.args.tokens.now _ (map lexeme c.in_ok-right-in-Some.rest.now)
    c.if-count-eq0.false c.in-len1-up.len_at_least c.in-Some.ensures c.in_ok-right-in-Some.ensures c.in_ok-both-in-Some.ensures.both) c.more_sides.ensures
