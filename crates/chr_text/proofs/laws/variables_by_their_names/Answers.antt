use Rattle.chr_text.proofs.InScope.{rule_places, one_number}
use Rattle.chr_text.proofs.laws.variables_by_their_names.Goals as goal

pub returns : goal.returns
returns c = record { places = rule_places; same = one_number }
