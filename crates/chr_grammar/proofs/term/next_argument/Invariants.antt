use Rattle.std.proofs.Common.{◌≡◌, ◌≤◌, length, map, drop}
use Rattle.chr_lex.specs.Tokens.{lexeme}
use Rattle.chr_grammar.specs.Parsing.{next_at}
use Rattle.chr_grammar.proofs.term.next_argument.Given as goal

abbrev pub decreases-loop-open : goal.decreases-loop-open
decreases-loop-open l = l.open

abbrev pub invariant-loop-open : goal.invariant-loop-open
invariant-loop-open l = record {
  so_far : next_at l.open (drop l.at (map lexeme l.tokens)) ≡ next_at l.depth (drop l.from (map lexeme l.tokens));
  few : l.open ≤ l.depth;
  behind : l.from ≤ l.at;
  within : l.at ≤ length l.tokens;
}
