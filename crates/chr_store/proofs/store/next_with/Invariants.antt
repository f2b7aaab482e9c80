use Rattle.std.proofs.Common.{◌≡◌, ◌-◌}
use Rattle.chr_value.specs.Atoms.{said}
use Rattle.chr_store.proofs.Stored.{IsPassed}
use Rattle.chr_store.proofs.store.next_with.Given as goal

-- the labels stay, and what lies up to one has been left
abbrev pub invariant-loop-label : goal.invariant-loop-label
invariant-loop-label g l = record {
  same : l.labels ≡ l.fn.labels;
  passed : IsPassed l.atoms.entries l.place (said l.value) l.fn.labels l.after l.from;
}

abbrev pub decreases-loop-label : goal.decreases-loop-label
decreases-loop-label g l = l.below - l.from
