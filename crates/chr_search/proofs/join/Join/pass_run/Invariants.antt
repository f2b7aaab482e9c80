use Rattle.std.proofs.Common.{◌≡◌, ◌+◌, ◌-◌, ◌^◌, ◌<◌, ◌≤◌, max}
use Rattle.chr_search.specs.Joined.{join_of}
use Rattle.chr_search.specs.Passing.{AreMisfits}
use Rattle.chr_search.proofs.join.Join.pass_run.Given as goal

abbrev pub invariant-loop-count : goal.invariant-loop-count
invariant-loop-count g l = record {
  few : l.count ≤ l.most;
  small : l.after + 1 < 2 ^ 64;
  misfits : AreMisfits (join_of l.self) l.path.labels.now l.count (max 1 l.from) (l.after + 1);
  same : l.level ≡ l.fn.level;
  binding : l.binding ≡ l.fn.binding;
}

abbrev pub decreases-loop-count : goal.decreases-loop-count
decreases-loop-count g l = l.most - l.count
