use Rattle.std.proofs.Common.{◌≡◌, take}
use Rattle.chr_search.proofs.position.Position.become_at.Given as goal

abbrev pub invariant-loop-label : goal.invariant-loop-label
invariant-loop-label l = l.self-inside.labels.items ≡ take l.label-index l.label-items
