use Rattle.chr_calls.proofs.Marking.{strays_keep}
use Rattle.chr_calls.proofs.laws.marks_keep.Goals as goal

pub returns-clause-strays : goal.returns-clause-strays
returns-clause-strays c = strays_keep
