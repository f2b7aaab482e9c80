use Rattle.chr_search.proofs.Searching.{moves_after, moves_past}
use Rattle.chr_search.proofs.laws.positions_move_on.Goals as goal

pub returns : goal.returns
returns c = record { after = moves_after; past = moves_past }
