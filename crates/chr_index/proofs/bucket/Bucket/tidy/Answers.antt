use Rattle.std.proofs.Common.{◌≡◌, ◌≤◌, ℕ, List, sym, ap, subst, length, drop, ◌∙◌}
use Rattle.chr_index.specs.declared.bucket.Slot.{Slot}
use Rattle.chr_index.specs.Buckets.{live_labels, IsBucket}
use Rattle.chr_index.proofs.Slots.{kept_bucket, living_kept, front_later}
use Rattle.chr_index.proofs.bucket.Bucket.tidy.Goals as goal

pub invariant_of-self : goal.invariant_of-self
invariant_of-self g c = subst (λ (z : List Slot). IsBucket z 0) (sym c.compact.ensures) (kept_bucket c.self.inside.slots.items c.self.invariant.rising)

pub invariant_of-self-else-len-self : goal.invariant_of-self-else-len-self
invariant_of-self-else-len-self g c =
    let first : ℕ = c.first_live-self-inside.result in
    record {
      rising = c.self.invariant.rising;
      jumps = c.self.invariant.jumps;
      within = subst (λ (z : List Slot). first ≤ length z) c.deref.ensures.value c.first_live-self-inside.ensures.within;
      front = front_later c.self.inside.slots.items c.self.inside.first first c.self.invariant.front (subst (λ (z : List Slot). live_labels (drop c.self.inside.first z) ≡ live_labels (drop first z)) c.deref.ensures.value c.first_live-self-inside.ensures.rest);
    }

pub returns-then-len-self : goal.returns-then-len-self
returns-then-len-self g c = ap live_labels c.compact.ensures ∙ living_kept c.self.inside.slots.items ∙ c.self.view_is
