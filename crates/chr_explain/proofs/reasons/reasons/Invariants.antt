use Rattle.std.proofs.Common.{◌≡◌, Bool, map, take}
use Rattle.std.specs.List.{AllByRecursion}
use Rattle.chr_log.specs.Events.{events_of}
use Rattle.chr_explain.specs.Reasons.{reason_of, HasRemovals, IsReason}
use Rattle.chr_explain.proofs.reasons.reasons.Given as goal

abbrev pub invariant-loop-cause : goal.invariant-loop-cause
invariant-loop-cause g l = record {
  causes : map (λ r. r.cause) l.list.items ≡ take l.cause-index l.causes;
  each : (gone : Bool) → HasRemovals gone (events_of l.events) l.causes l.removals → AllByRecursion (IsReason l.program (events_of l.events) l.atoms gone) (map reason_of l.list.items);
}
