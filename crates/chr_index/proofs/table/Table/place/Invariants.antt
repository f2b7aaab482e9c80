use Rattle.chr_index.proofs.Chaining.{IsWalked}
use Rattle.chr_index.proofs.table.Table.place.Given as goal

abbrev pub invariant-loop-place : goal.invariant-loop-place
invariant-loop-place g l = IsWalked l.self l.key l.place

abbrev pub decreases-loop-place : goal.decreases-loop-place
decreases-loop-place g l = l.place
