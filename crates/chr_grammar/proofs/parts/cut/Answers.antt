use Rattle.std.proofs.Common.{arith}
use Rattle.chr_grammar.specs.Parsing.{divides}
use Rattle.chr_grammar.proofs.Lists.{uncut, cut_at}
use Rattle.chr_grammar.proofs.parts.cut.Goals as goal

pub returns-then-at-tokens : goal.returns-then-at-tokens
returns-then-at-tokens c = uncut (divides c.args.divider) c.args.tokens.now c.count_before-at.result c.count_before-at.ensures.same c.if-at-tokens.true

pub returns : goal.returns
returns c = cut_at (divides c.args.divider) c.args.tokens.now c.count_before-at.result _ c.count_before-at.ensures.same (omega (arith, c.count_before-at.ensures.within, c.if-at-tokens.false))
