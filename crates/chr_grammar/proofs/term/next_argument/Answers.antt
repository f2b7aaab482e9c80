use Rattle.std.proofs.Common.{arith}
use Rattle.chr_grammar.proofs.Lists.{tokens_past, next_none, next_comma, next_stop, next_closes}
use Rattle.chr_grammar.proofs.term.next_argument.Goals as goal

pub returns-then-at-tokens-clause-same : goal.returns-then-at-tokens-clause-same
returns-then-at-tokens-clause-same c = next_none c.loop-open.open _ _ c.loop-open-test.true (tokens_past c.args.tokens.now c.loop-open.at c.if-at-tokens.true) c.loop-open.invariant.so_far

pub returns-then-is_comma-clause-same : goal.returns-then-is_comma-clause-same
returns-then-is_comma-clause-same c = next_comma c.loop-open.open c.loop-open.at c.args.tokens.now _ _ c.loop-open-test.true (omega arith) c.if-is_comma.ensures c.loop-open.invariant.so_far

pub returns-then-not-is_close-clause-same : goal.returns-then-not-is_close-clause-same
returns-then-not-is_close-clause-same c =
    next_stop c.loop-open.open c.loop-open.at c.args.tokens.now _ _ c.loop-open-test.true (omega arith) c.if-is_comma.ensures c.if-not-is_close.ensures c.loop-open.invariant.so_far

pub loop-open-preserved : goal.loop-open-preserved
loop-open-preserved c = record {
  so_far = next_closes c.loop-open.open c.loop-open.at c.args.tokens.now _ _ c.loop-open-test.true (omega arith) c.if-is_comma.ensures c.if-not-is_close.ensures c.loop-open.invariant.so_far;
  few = omega arith;
  behind = omega arith;
  within = omega arith;
}
