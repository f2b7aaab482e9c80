use Rattle.chr_grammar.proofs.Statements.{says, by_texts, one_statement, refused}
use Rattle.chr_grammar.proofs.laws.statements_by_their_forms.Goals as goal

pub returns : goal.returns
returns c = record { found = says; only = by_texts; one = one_statement; refused = refused }
