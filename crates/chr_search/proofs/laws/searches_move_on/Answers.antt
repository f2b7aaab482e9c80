use Rattle.chr_search.proofs.Searching.{moved_after, moved_past}
use Rattle.chr_search.proofs.laws.searches_move_on.Goals as goal

pub returns : goal.returns
returns c = record { after = moved_after; past = moved_past }
