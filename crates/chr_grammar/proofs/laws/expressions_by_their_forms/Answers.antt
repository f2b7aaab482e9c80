use Rattle.chr_grammar.proofs.Formulas.{are_expressions, read_before, no_expressions}
use Rattle.chr_grammar.proofs.laws.expressions_by_their_forms.Goals as goal

pub returns : goal.returns
returns c = record { found = are_expressions; only = read_before; refused = no_expressions }
