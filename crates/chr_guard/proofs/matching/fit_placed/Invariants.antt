use Rattle.std.proofs.Common.{map, take}
use Rattle.chr_guard.specs.Bindings.{Narrows}
use Rattle.chr_guard.specs.Matching.{AreAtHeads}
use Rattle.chr_guard.proofs.matching.fit_placed.Given as goal

abbrev pub invariant-loop-number : goal.invariant-loop-number
invariant-loop-number g l = Narrows (AreAtHeads l.rule (take l.number-index (map (λ p. (p.0, p.1.now)) l.placed))) l.fn.binding l.binding
