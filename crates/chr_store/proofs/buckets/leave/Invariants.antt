use Rattle.std.proofs.Common.{◌≡◌}
use Rattle.chr_index.specs.Buckets.{drop_number}
use Rattle.chr_store.specs.KeyLabels.{IsChanged}
use Rattle.chr_store.proofs.buckets.leave.Given as goal

abbrev pub invariant-loop-place : goal.invariant-loop-place
invariant-loop-place g l = record {
  changed : IsChanged (drop_number l.label) l.fn.buckets.places l.atom l.place l.fn.buckets l.buckets;
  places : l.buckets.places ≡ l.fn.buckets.places;
}
