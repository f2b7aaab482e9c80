use Rattle.std.proofs.Common.{◌≡◌, ◌+◌, ◌-◌, ◌*◌, ◌<◌, [], ◌∷◌, length}
use Rattle.chr_search.specs.Joined.{join_of}
use Rattle.chr_search.specs.Trials.{older}
use Rattle.chr_search.specs.PlanByPlan.{AreAhead, IsJoinAt}
use Rattle.chr_search.proofs.PlanByPlan.{HasReached}
use Rattle.chr_search.proofs.search.Search.pass_plans.Given as goal

abbrev pub invariant-loop-then : goal.invariant-loop-then
invariant-loop-then g l = record {
  less : l.count < l.fn.most;
  stays : l.self ≡ l.fn.self;
  view : l.join.view ≡ l.fn.view;
  alone : l.instance.labels.items ≡ l.fn.view.active ∷ [];
  join : IsJoinAt (older l.fn.program l.fn.plans l.fn.view.store.entries l.fn.self.label) l.walk.rule l.walk.head (join_of l.join);
  reached : HasReached (older l.fn.program l.fn.plans l.fn.view.store.entries l.fn.self.label) (l.fn.walk.rule ∷ l.fn.walk.head ∷ []) l.count l.walk.rule l.walk.head;
  ahead : AreAhead (older l.fn.program l.fn.plans l.fn.view.store.entries l.fn.self.label) l.walk.rule (l.walk.head + 1) l.walk.heads;
}

abbrev pub decreases-loop-then : goal.decreases-loop-then
decreases-loop-then g l = (length l.fn.program + 1 - l.walk.rule) * 8 + (8 - (l.walk.head + 1))
