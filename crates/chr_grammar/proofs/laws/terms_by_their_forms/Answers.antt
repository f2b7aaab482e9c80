use Rattle.chr_grammar.proofs.Terms.{term_says, term_reads, no_term}
use Rattle.chr_grammar.proofs.laws.terms_by_their_forms.Goals as goal

pub returns : goal.returns
returns c = record { found = term_says; only = term_reads; refused = no_term }
