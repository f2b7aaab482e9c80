use Rattle.std.proofs.Common.{map, subst}
use Rattle.chr_lex.specs.Items.{entry}
use Rattle.chr_lex.specs.Tokens.{lexeme}
use Rattle.chr_grammar.specs.Views as by_texts
use Rattle.chr_text.specs.Fitting.{StatementPlain}
use Rattle.chr_text.proofs.Judged.{lexemes_plain, statements_are_plain}
use Rattle.chr_text.proofs.reading.ProgramItems.add_item.Goals as goal

pub add_rule-requires : goal.add_rule-requires
add_rule-requires g c =
    let ts = map lexeme c.in_ok-tokens.tokens.items in
    subst (λ x. StatementPlain (by_texts.statement {Z = g.row.A.Denot} x)) c.in-Rule.is (statements_are_plain ts (by_texts.statement {Z = g.row.A.Denot} c.in_ok-statement.statement) (lexemes_plain (entry c.args.item) ts c.in_ok-tokens.ensures) (rw (← c.deref.ensures.value) c.in_ok-statement.ensures))

pub returns-clause-gives : goal.returns-clause-gives
returns-clause-gives g c = rw (c.in_ok-tokens.ensures, ← c.deref.ensures.value, c.in_ok-statement.ensures, c.in-Rule.is) c.add_rule.ensures.gives
