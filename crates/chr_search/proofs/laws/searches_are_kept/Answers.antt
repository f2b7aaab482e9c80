use Rattle.chr_search.proofs.Searching.{begun, asked, forgotten, shrunk}
use Rattle.chr_search.proofs.laws.searches_are_kept.Goals as goal

pub returns : goal.returns
returns c = record { begun = begun; asked = asked; forgotten = forgotten; others = shrunk }
