use Rattle.std.proofs.Common.{ℕ, arith}
use Rattle.crossbeam_deque.specs.Handles.{worker_view}
use Rattle.chr_pool.proofs.Rules.{learns, ones}
use Rattle.chr_pool.proofs.own_deque.OwnDeque.look.Goals as goal

pub len_as-requires : goal.len_as-requires
len_as-requires g c = learns g.T.Numbered.number _ _

pub returns-clause-rule : goal.returns-clause-rule
returns-clause-rule g c =
    let v = worker_view c.args.self.now.worker in
    let fact = c.len_as.ensures.rule.2 c.requires (λ (x : ℕ). 1) in
    omega (arith, fact, ones v.pushed, ones v.taken)
