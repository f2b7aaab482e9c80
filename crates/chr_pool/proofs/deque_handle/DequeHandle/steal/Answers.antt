use Rattle.chr_pool.proofs.Rules.{finds_few}
use Rattle.chr_pool.proofs.deque_handle.DequeHandle.steal.Goals as goal

pub steal_as-requires-clause-empty : goal.steal_as-requires-clause-empty
steal_as-requires-clause-empty g c = rw c.args.self.now.fifo (finds_few _ _ _)
