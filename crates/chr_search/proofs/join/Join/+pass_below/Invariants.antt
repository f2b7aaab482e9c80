use Rattle.std.proofs.Common.{◌≡◌, ◌+◌, ◌-◌, ◌<◌, ℕ, List, [], length}
use Rattle.chr_search.specs.Joined.{join_of}
use Rattle.chr_search.specs.Partners.{IsReady}
use Rattle.chr_search.specs.Passing.{IsLevel, IsBelow}
use Rattle.chr_search.specs.Tree.{Grows}
use Rattle.chr_search.specs.Trials.{MayFollow}
use Rattle.chr_search.proofs.Below.{HasRun}
use Rattle.chr_search.proofs.join.Join.+pass_below.Given as goal

abbrev pub invariant-loop-label : goal.invariant-loop-label
invariant-loop-label g l = record {
  less : l.count < l.most;
  passes : (place : List ℕ) → IsBelow (join_of l.self) l.fn.instance.labels.items place l.fn.from → HasRun (join_of l.self) l.fn.instance.labels.items place l.count l.from;
  labels : l.instance.labels.items ≡ l.fn.instance.labels.items;
  binding : l.binding ≡ l.fn.binding;
  grows : Grows (MayFollow (join_of l.self)) [] l.instance.labels.items;
  ready : IsReady (join_of l.self) l.instance.labels.items l.binding;
  level : IsLevel (join_of l.self) l.instance.labels.items l.binding l.level;
}

abbrev pub decreases-loop-label : goal.decreases-loop-label
decreases-loop-label g l = l.self.view.active + 1 - l.from

abbrev pub decreases-pass_below : goal.decreases-pass_below
decreases-pass_below g l = 6 - length l.instance.now.labels.items
