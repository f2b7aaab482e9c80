use Rattle.chr_search.proofs.Searching.{youngest_reached}
use Rattle.chr_search.proofs.laws.youngest_instances_are_reached.Goals as goal

pub returns : goal.returns
returns c = youngest_reached
