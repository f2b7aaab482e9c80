use Rattle.std.proofs.Common.{◌≡◌, ℕ, ◌-◌, true, List, Some, sym, ap, subst, length, take, slice_get, ◌∙◌, eq-eqb}
use Rattle.chr_index.specs.declared.bucket.Slot.{Slot}
use Rattle.chr_index.specs.Buckets.{is_live, live_labels, drop_number, IsBucket}
use Rattle.chr_index.proofs.Slots.{popped_bucket, popped_living}
use Rattle.chr_index.proofs.bucket.Bucket.pop.Goals as goal

pub invariant_of-self : goal.invariant_of-self
invariant_of-self g c =
    let t : Slot = c.in-Some.last.now in
    let at : slice_get c.self.inside.slots.items (length c.self.inside.slots.items - 1) ≡ Some t = subst (λ (z : List Slot). slice_get z (length z - 1) ≡ Some t) c.deref.ensures.value (sym c.in-Some.ensures.value) in
    let live : is_live t ≡ true = eq-eqb t.run 0 c.if-last-ne0.false in
    let rest = c.pop.ensures.rest ∙ ap (λ (n : ℕ). take (n - 1) c.self.inside.slots.items) c.self.inside.slots.ok.0 in
    subst (λ (z : List Slot). IsBucket z c.self.inside.first) (sym rest) (popped_bucket c.self.inside.slots.items t at live c.self.inside.first c.self.invariant)

pub returns-clause-gone : goal.returns-clause-gone
returns-clause-gone g c = λ yes.
    let ss : List Slot = c.self.inside.slots.items in
    let t : Slot = c.in-Some.last.now in
    let at : slice_get ss (length ss - 1) ≡ Some t = subst (λ (z : List Slot). slice_get z (length z - 1) ≡ Some t) c.deref.ensures.value (sym c.in-Some.ensures.value) in
    let rest = c.pop.ensures.rest ∙ ap (λ (n : ℕ). take (n - 1) ss) c.self.inside.slots.ok.0 in
    ap live_labels rest ∙ popped_living ss t at (eq-eqb t.run 0 c.if-last-ne0.false) c.self.invariant.rising ∙ ap (λ (n : ℕ). drop_number n (live_labels ss)) (sym c.from.ensures ∙ c.if-from-label.false) ∙ ap (drop_number c.args.label) c.self.view_is
