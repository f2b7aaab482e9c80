use Rattle.chr_pool.proofs.Rules.{begins}
use Rattle.chr_pool.proofs.new_deque.NewDeque.new.Goals as goal

pub fifo_as-requires : goal.fifo_as-requires
fifo_as-requires g c = begins g.T.Numbered.number
