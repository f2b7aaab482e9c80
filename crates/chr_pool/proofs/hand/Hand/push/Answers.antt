use Rattle.chr_pool.proofs.Rules.{pushes}
use Rattle.chr_pool.proofs.hand.Hand.push.Goals as goal

pub push_as-requires-clause-pushes : goal.push_as-requires-clause-pushes
push_as-requires-clause-pushes g c = pushes _ _ _ _ c.args.self.now.some_part
