use Rattle.std.proofs.Common.{◌≡◌, ◌-◌, ◌≤◌, length, map, drop}
use Rattle.chr_lex.specs.Tokens.{lexeme}
use Rattle.chr_grammar.specs.Views.{node}
use Rattle.chr_grammar.specs.Parsing.{nodes_at, term_at}
use Rattle.chr_grammar.proofs.Lists.{front_with}
use Rattle.chr_grammar.proofs.term.term_from.Given as goal

abbrev pub invariant-loop : goal.invariant-loop
invariant-loop g l = record {
  so_far : front_with (map node l.nodes.items) (nodes_at (length l.tokens - l.from - l.counter) l.depth (drop l.at (map lexeme l.tokens))) ≡ term_at (drop l.from (map lexeme l.tokens));
  few : l.depth ≤ l.at;
  behind : l.from ≤ l.at;
  within : l.at ≤ length l.tokens;
}
