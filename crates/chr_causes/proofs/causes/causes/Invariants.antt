use Rattle.std.proofs.Common.{◌≡◌, take, map}
use Rattle.chr_log.specs.Events.{events_of}
use Rattle.chr_causes.proofs.Marked.{label_of, marked, AllStand}
use Rattle.chr_causes.proofs.causes.causes.Given as goal

abbrev pub invariant-loop-place : goal.invariant-loop-place
invariant-loop-place g l = record {
  labels : map label_of l.list.items ≡ marked 1 (take l.place l.is_cause-items);
  origins : AllStand l.program (events_of l.events) l.list.items;
}
