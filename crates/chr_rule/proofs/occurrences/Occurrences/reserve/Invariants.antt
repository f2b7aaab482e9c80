use Rattle.chr_rule.specs.Index.{HasRoomBelow, KeepsRows}
use Rattle.chr_rule.proofs.occurrences.Occurrences.reserve.Given as goal

abbrev pub invariant-loop-head : goal.invariant-loop-head
invariant-loop-head g l = record {
  keeps : KeepsRows l.fn.self l.self;
  room : HasRoomBelow l.head l.self l.rule;
}
