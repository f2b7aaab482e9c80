use Rattle.chr_grammar.proofs.Terms.{are_phrases, phrases_read, no_phrases}
use Rattle.chr_grammar.proofs.laws.atoms_by_their_forms.Goals as goal

pub returns : goal.returns
returns c = record { found = are_phrases; only = phrases_read; refused = no_phrases }
