use Rattle.std.proofs.Common.{◌≤◌, ◌+◌, ◌-◌, ◌*◌, length}
use Rattle.chr_search.specs.Trials.{older}
use Rattle.chr_search.specs.PlanByPlan.{AreAhead, HasComeTo}
use Rattle.chr_search.proofs.search.Search.find_in.Given as goal

abbrev pub invariant-loop-rule : goal.invariant-loop-rule
invariant-loop-rule g l = record {
  come : HasComeTo (older l.fn.program l.fn.plans l.fn.view.store.entries l.fn.self.label) l.fn.self.place l.walk.rule l.walk.head;
  found : (1 ≤ l.found-inside.rule) × (1 ≤ l.found-inside.head);
  ahead : AreAhead (older l.fn.program l.fn.plans l.fn.view.store.entries l.fn.self.label) l.walk.rule l.walk.head l.walk.heads;
}

abbrev pub decreases-loop-rule : goal.decreases-loop-rule
decreases-loop-rule g l = (length l.fn.program + 1 - l.walk.rule) * 8 + (8 - l.walk.head)
