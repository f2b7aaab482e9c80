use Rattle.std.proofs.Common.{◌≡◌, ℕ, ◌-◌, ◌<◌, ◌≤◌, length, slice_index}
use Rattle.chr_store.proofs.atoms.next_block.Given as goal

abbrev pub invariant-loop-block : goal.invariant-loop-block
invariant-loop-block l = (l.from ≤ l.block) × ((k : ℕ) → l.from ≤ k → k < l.block → (k < length l.counts) × (slice_index l.counts k ≡ 0))

abbrev pub decreases-loop-block : goal.decreases-loop-block
decreases-loop-block l = length l.counts - l.block
