use Rattle.std.proofs.Common.{◌≡◌, map, take}
use Rattle.chr_search.proofs.position.are_labels_of.Given as goal

abbrev pub invariant-loop-i : goal.invariant-loop-i
invariant-loop-i g l = take l.i l.labels ≡ map (λ p. p.label) (take l.i l.placed)
