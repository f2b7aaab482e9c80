use Rattle.std.proofs.Common.{◌+◌, ◌∷◌, map, ap, ◌∙◌}
use Rattle.crossbeam_deque.specs.Handles.{worker_view}
use Rattle.chr_pool.specs.Handles.{queue_account, stolen, OneGrew}
use Rattle.chr_pool.specs.Hands.{hand_views}
use Rattle.chr_pool.proofs.Rules.{finds}
use Rattle.chr_pool.proofs.ViewLists.{later_grew, one_longer}
use Rattle.chr_pool.proofs.hand.Hand.take.Given.{Over}
use Rattle.chr_pool.proofs.hand.Hand.take.Goals as goal
use Rattle.chr_pool.proofs.hand.Hand.take.Goals.{In_ok-task}

pub pop_as-requires-clause-empty : goal.pop_as-requires-clause-empty
pop_as-requires-clause-empty g c = finds g.T.Numbered.number _ _

grew : (g : Over) (c : In_ok-task g) → OneGrew (g.T.Numbered.number c.in_ok-task.task) (hand_views c.args.self.now) ((worker_view c.pop_as.new.self).taken ∷ (queue_account c.take.new.self).taken ∷ map stolen c.steal_from.new.handles.items)
grew g c =
    let me = c.args.self.now in
    later_grew (g.T.Numbered.number c.in_ok-task.task) (worker_view me.own) (worker_view c.pop_as.new.self) (queue_account me.queue_handle) (queue_account c.take.new.self) (map stolen me.deque_handles.items) (map stolen c.steal_from.new.handles.items) c.in_default.ensures.rule.0 c.in_default-take.ensures.rule c.in_ok-task.ensures.rule

pub invariant_of-self-2-clause-taken_counted : goal.invariant_of-self-2-clause-taken_counted
invariant_of-self-2-clause-taken_counted g c =
    let me = c.args.self.now in
    one_longer _ (hand_views me) _ (grew g (goal.at.invariant_of-self-2-clause-taken_counted g c).In_ok-task) ∙ ap (λ n. n + 1) me.taken_counted
