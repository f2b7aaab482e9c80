use Rattle.std.proofs.Common.{ℕ, ◌<◌, ◌≡◌, true, List, Some, None, subst, sym, refl, ◌∙◌}
use Rattle.chr_value.specs.Atoms.{said}
use Rattle.chr_index.specs.Buckets.{IsLeastBetween}
use Rattle.chr_store.specs.KeyParts.{Key}
use Rattle.chr_store.specs.Index.{own_key, chosen, pred_of}
use Rattle.chr_store.specs.Indexed.{IsLeastWith}
use Rattle.chr_store.proofs.Stored.{same_asked, found_own, found_at, found_own_with, found_at_with}
use Rattle.chr_store.proofs.store.Store.next_at.Goals as goal

pub returns-in_default-clause-least : goal.returns-in_default-clause-least
returns-in_default-clause-least g c =
    same_asked _ _ c.args.pred None c.args.key c.args.after c.args.below c.next_at.result c.self.view_is c.in_default.is
    (found_own _ _ _ c.self.invariant c.args.pred c.args.after c.args.below c.next_at.result (own_key c.args.pred) refl (subst (λ (ms : List ℕ). IsLeastBetween ms c.args.after c.args.below c.next_at.result) c.of_pred.ensures c.next_at.ensures.least))

pub returns-in_default-at_place-clause-least : goal.returns-in_default-at_place-clause-least
returns-in_default-at_place-clause-least g c =
    same_asked _ _ c.args.pred (Some (c.in-Some.place, c.in-Some.value)) c.args.key c.args.after c.args.below c.next_with.result c.self.view_is c.in-Some.is
    (found_own_with _ _ _ c.self.invariant c.args.pred c.args.after c.args.below c.next_with.result (own_key c.args.pred) c.in-Some.place (said c.in-Some.value) refl
    (subst (λ (ms : List ℕ). IsLeastWith c.self.inside.atoms.entries c.in-Some.place (said c.in-Some.value) ms c.args.after c.args.below c.next_with.result) c.of_pred-in_default-at_place.ensures c.next_with.ensures))

pub returns-then-is_constant-clause-least : goal.returns-then-is_constant-clause-least
returns-then-is_constant-clause-least g c =
    let h = c.in-Some-at_place.ensures in
    same_asked _ _ c.args.pred (Some (c.in-Some.place, c.in-Some.value)) c.args.key c.args.after c.args.below c.next_at-then-is_constant.result c.self.view_is c.in-Some.is
    (found_at _ _ _ c.self.invariant c.args.pred c.args.after c.args.below c.next_at-then-is_constant.result c.value_key.result c.in-Some.place (said c.in-Some.value) c.value_key.ensures
    (subst (λ (k : Key). 0 < k.place) c.value_key.ensures h.1) (subst (λ (k : Key). chosen c.self.inside.buckets.places (pred_of k) k.place ≡ true) c.value_key.ensures h.2) (sym c.is_constant.ensures ∙ c.if-is_constant.true)
    (subst (λ (ms : List ℕ). IsLeastBetween ms c.args.after c.args.below c.next_at-then-is_constant.result) h.0 c.next_at-then-is_constant.ensures.least))

pub returns-clause-least : goal.returns-clause-least
returns-clause-least g c =
    let h = c.in-Some-at_place.ensures in
    same_asked _ _ c.args.pred (Some (c.in-Some.place, c.in-Some.value)) c.args.key c.args.after c.args.below c.next_with-2.result c.self.view_is c.in-Some.is
    (found_at_with _ _ _ c.self.invariant c.args.pred c.args.after c.args.below c.next_with-2.result c.value_key.result c.in-Some.place (said c.in-Some.value) c.value_key.ensures
    (subst (λ (k : Key). 0 < k.place) c.value_key.ensures h.1) (subst (λ (k : Key). chosen c.self.inside.buckets.places (pred_of k) k.place ≡ true) c.value_key.ensures h.2)
    (subst (λ (ms : List ℕ). IsLeastWith c.self.inside.atoms.entries c.in-Some.place (said c.in-Some.value) ms c.args.after c.args.below c.next_with-2.result) h.0 c.next_with-2.ensures))
