use Rattle.std.proofs.Common.{◌≡◌, map, drop, flat_map}
use Rattle.chr_limits.specs.Views.{names}
use Rattle.chr_limits.specs.Variables.{seen_from}
use Rattle.chr_lex.specs.Tokens.{lexeme}
use Rattle.chr_explain.specs.Headings.{lexeme_variables}
use Rattle.chr_explain.proofs.headings.meet_tokens.Given as goal

abbrev pub invariant-loop-token : goal.invariant-loop-token
invariant-loop-token l = seen_from (names l.seen.items) (flat_map lexeme_variables (map lexeme (drop l.token-index l.tokens))) ≡ seen_from (names l.fn.seen.items) (flat_map lexeme_variables (map lexeme l.tokens))
