use Rattle.std.proofs.Common.{◌≡◌, length, ◌-◌, ◌≤◌, drop}
use Rattle.chr_index.specs.Buckets.{live_labels}
use Rattle.chr_index.proofs.bucket.first_live.Given as goal

abbrev pub invariant-loop-place : goal.invariant-loop-place
invariant-loop-place l = record {
  within : l.place ≤ length l.slots;
  rest : live_labels (drop l.fn.from l.slots) ≡ live_labels (drop l.place l.slots);
}

abbrev pub decreases-loop-place : goal.decreases-loop-place
decreases-loop-place l = length l.slots - l.place
