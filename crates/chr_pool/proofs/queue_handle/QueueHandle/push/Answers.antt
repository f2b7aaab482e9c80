use Rattle.chr_pool.proofs.Rules.{pushes}
use Rattle.chr_pool.proofs.queue_handle.QueueHandle.push.Goals as goal

pub push_as-requires-clause-rule : goal.push_as-requires-clause-rule
push_as-requires-clause-rule g c = pushes _ _ _ _ c.args.self.now.some_part
