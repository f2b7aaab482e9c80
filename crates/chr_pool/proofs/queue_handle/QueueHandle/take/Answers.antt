use Rattle.chr_pool.proofs.Rules.{takes, finds}
use Rattle.chr_pool.proofs.queue_handle.QueueHandle.take.Goals as goal

pub steal_as-requires-clause-rule : goal.steal_as-requires-clause-rule
steal_as-requires-clause-rule g c = (takes _ _ _ c.loop.self.some_part, finds g.T.Numbered.number _ _)
