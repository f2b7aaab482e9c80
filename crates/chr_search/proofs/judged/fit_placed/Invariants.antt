use Rattle.std.proofs.Common.{map, take}
use Rattle.chr_guard.specs.Bindings.{Narrows}
use Rattle.chr_guard.specs.Matching.{AreAtHeads}
use Rattle.chr_search.proofs.judged.fit_placed.Given as goal

abbrev pub invariant-loop-one : goal.invariant-loop-one
invariant-loop-one g l = Narrows (AreAtHeads l.rule (take l.one-index (map (λ p. (p.head, p.atom)) l.placed))) l.fn.binding l.binding
