use Rattle.std.proofs.Common.{◌≡◌, map, take}
use Rattle.chr_search.proofs.trial.same_labels.Given as goal

abbrev pub invariant-loop-i : goal.invariant-loop-i
invariant-loop-i g l = map (λ p. p.label) (take l.i l.placed) ≡ map (λ p. p.label) (take l.i l.other)
