use Rattle.chr_search.proofs.Searching.{once}
use Rattle.chr_search.proofs.laws.reached_once.Goals as goal

pub returns : goal.returns
returns c = once
