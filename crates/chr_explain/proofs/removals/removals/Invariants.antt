use Rattle.std.proofs.Common.{take}
use Rattle.chr_log.specs.Events.{events_of}
use Rattle.chr_explain.specs.Reasons.{AreRemovals}
use Rattle.chr_explain.proofs.removals.removals.Given as goal

abbrev pub invariant-loop-place : goal.invariant-loop-place
invariant-loop-place g l = AreRemovals (take l.place (events_of l.events)) l.labels l.list.items
