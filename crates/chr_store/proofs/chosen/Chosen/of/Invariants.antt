use Rattle.std.proofs.Common.{take}
use Rattle.chr_store.specs.Marks.{AreMarks}
use Rattle.chr_store.proofs.chosen.Chosen.of.Given as goal

abbrev pub invariant-loop-number : goal.invariant-loop-number
invariant-loop-number g l = AreMarks l.marks.items (take l.number l.places)
