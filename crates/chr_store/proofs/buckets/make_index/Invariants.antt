use Rattle.std.proofs.Common.{◌≡◌, ℕ, ◌+◌, ◌-◌}
use Rattle.chr_store.specs.KeyParts.{KeyValue}
use Rattle.chr_store.specs.KeyLabels.{index_at}
use Rattle.chr_store.proofs.buckets.make_index.Given as goal

abbrev pub invariant-loop-alloc : goal.invariant-loop-alloc
invariant-loop-alloc g l = (n : ℕ) (v : KeyValue) → index_at l.indexes.items n v ≡ index_at l.initial.indexes.items n v

abbrev pub decreases-loop-alloc : goal.decreases-loop-alloc
decreases-loop-alloc g l = l.number + 1 - l.indexes.len
