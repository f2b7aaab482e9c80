use Rattle.chr_index.proofs.Chaining.{IsChainedUpTo}
use Rattle.chr_index.proofs.table.chain_all.Given as goal

abbrev pub invariant-loop-i : goal.invariant-loop-i
invariant-loop-i l = IsChainedUpTo l.shift l.i l.chains l.initial.entries l.entries
