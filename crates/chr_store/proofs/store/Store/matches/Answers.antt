use Rattle.std.proofs.Common.{ℕ, ◌<◌, ◌≡◌, true, Some, None, List, subst, sym, refl, ◌∙◌}
use Rattle.std.proofs.lemmas.Option.{IfSome_then}
use Rattle.chr_value.specs.Atoms.{said}
use Rattle.chr_index.specs.Buckets.{IsLeastBetween}
use Rattle.chr_store.specs.KeyParts.{Key}
use Rattle.chr_store.specs.Index.{own_key, chosen, pred_of}
use Rattle.chr_store.proofs.Stored.{same_asked, found_own, found_at}
use Rattle.chr_store.proofs.store.Store.matches.Goals as goal

pub returns-in_default-clause-least : goal.returns-in_default-clause-least
returns-in_default-clause-least g c = λ after below found least.
    same_asked _ _ c.args.pred None c.args.key after below found c.self.view_is c.in_default.is
    (found_own _ _ _ c.self.invariant c.args.pred after below found (own_key c.args.pred) refl (subst (λ (ms : List ℕ). IsLeastBetween ms after below found) c.of_pred.ensures least))

pub returns-clause-least : goal.returns-clause-least
returns-clause-least g c = IfSome_then c.at_place.result c.at_place.ensures (λ labels h after below found least.
    same_asked _ _ c.args.pred (Some (c.in-Some.place, c.in-Some.value)) c.args.key after below found c.self.view_is c.in-Some.is
    (found_at _ _ _ c.self.invariant c.args.pred after below found c.value_key.result c.in-Some.place (said c.in-Some.value) c.value_key.ensures (subst (λ (k : Key). 0 < k.place) c.value_key.ensures h.1)
    (subst (λ (k : Key). chosen c.self.inside.buckets.places (pred_of k) k.place ≡ true) c.value_key.ensures h.2) (sym c.is_constant.ensures ∙ c.if-not-is_constant.false) (subst (λ (ms : List ℕ). IsLeastBetween ms after below found) h.0 least)))
