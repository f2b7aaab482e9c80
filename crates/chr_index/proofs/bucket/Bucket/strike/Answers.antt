use Rattle.std.proofs.Common.{◌≡◌, ℕ, List, sym, ap, subst, ◌∙◌}
use Rattle.chr_index.specs.Buckets.{live_labels, drop_number}
use Rattle.chr_index.proofs.Slots.{drop_absent, living_all}
use Rattle.chr_index.proofs.bucket.Bucket.strike.Goals as goal

pub returns-in_default : goal.returns-in_default
returns-in_default g c =
    subst (λ (z : List ℕ). z ≡ drop_number c.args.label z) (ap live_labels c.deref.ensures.value ∙ c.self.view_is) (sym (drop_absent c.args.label _ (living_all (λ m. m ≡ c.args.label → ⊥) c.deref.result.now c.in_default.ensures)))
