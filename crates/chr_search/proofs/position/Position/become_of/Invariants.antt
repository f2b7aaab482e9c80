use Rattle.std.proofs.Common.{◌≡◌, map, take}
use Rattle.chr_search.proofs.position.Position.become_of.Given as goal

abbrev pub invariant-loop-placed : goal.invariant-loop-placed
invariant-loop-placed g l = l.self-inside.labels.items ≡ map (λ p. p.label) (take l.placed-index l.all)
