use Rattle.std.proofs.Common.{◌≡◌, ◌-◌, map}
use Rattle.chr_grammar.specs.Parsing.{members_at, several_at}
use Rattle.chr_grammar.proofs.Lists.{front_with}
use Rattle.chr_grammar.proofs.list.parse_several.Given as goal

abbrev pub invariant-loop : goal.invariant-loop
invariant-loop g l =
    front_with (map g.M.Member.said l.members.items) (members_at g.M.Member.front (l.end - l.counter) (g.S.Tokens.lexemes l.rest)) ≡ several_at g.M.Member.front (g.S.Tokens.lexemes l.fn.tokens)
