use Rattle.std.proofs.Common.{◌≡◌, ℕ, ◌+◌, ◌<◌, List, length, arith, ◌++◌, ◌∷◌, [], map, subst, sym, ap, ◌∙◌, append_assoc, append-nil}
use Rattle.std.proofs.lemmas.List.{map_push}
use Rattle.std.proofs.lemmas.Map.Iter.{rest_more, rest_all}
use Rattle.chr_value.specs.Stores.{Store}
use Rattle.chr_store.specs.Labels.{GivenAtoms, GivenBefore, Rising}
use Rattle.chr_store.specs.Table.{shown}
use Rattle.chr_store.specs.KeyLabels.{IsIndexOf}
use Rattle.chr_store.specs.Indexed.{IsIndexed}
use Rattle.chr_store.proofs.Stored.{seen, indexed_by, changed_by, given_at, kept_none, kept_under, kept_push, before_all}
use Rattle.chr_store.proofs.store.Store.copy.Goals as goal

pub loop-label-preserved : goal.loop-label-preserved
loop-label-preserved g c =
    let es : Store = map shown c.loop-label.yielded in
    let l : ℕ = c.in-Some.label in
    let whole : es ++ (l, c.in-Some.atom.now) ∷ c.next.new.self ≡ c.self.inside.atoms.entries = ap (λ (z : Store). es ++ z) (sym (rest_more shown _ _ _ (l, c.in-Some.atom) c.in-Some.is c.next.ensures.steps)) ∙ c.loop-label.invariant.whole in
    let put : map shown (c.loop-label.yielded ++ (l, c.in-Some.atom) ∷ []) ≡ es ++ (l, c.in-Some.atom.now) ∷ [] = map_push shown c.loop-label.yielded (l, c.in-Some.atom) in
    record {
      whole = ap (λ (z : Store). z ++ c.next.new.self) put ∙ append_assoc es ((l, c.in-Some.atom.now) ∷ []) c.next.new.self ∙ whole;
      index = subst (λ (z : Store). IsIndexOf c.self.inside.buckets.places z c.enter.new.buckets) (sym put) (kept_push c.self.inside.buckets.places l c.in-Some.atom.now es c.loop-label.buckets c.enter.new.buckets c.loop-label.invariant.index (changed_by (λ (ms : List ℕ). ms ++ l ∷ []) c.self.inside.buckets.places c.loop-label.buckets.places c.in-Some.atom.now (length c.in-Some.atom.now.args + 1) c.loop-label.buckets c.enter.new.buckets c.loop-label.invariant.places c.in_ok-enter.ensures.ok));
      places = c.enter.ensures.places ∙ c.loop-label.invariant.places;
    }

pub enter-requires-clause-below : goal.enter-requires-clause-below
enter-requires-clause-below g c =
    let es : Store = map shown c.loop-label.yielded in
    let more = rest_more shown _ _ _ (c.in-Some.label, c.in-Some.atom) c.in-Some.is c.next.ensures.steps in
    let whole : es ++ (c.in-Some.label, c.in-Some.atom.now) ∷ c.next.new.self ≡ c.self.inside.atoms.entries = ap (λ (z : Store). es ++ z) (sym more) ∙ c.loop-label.invariant.whole in
    kept_under c.self.inside.buckets.places c.in-Some.label es c.loop-label.buckets (before_all c.in-Some.label c.in-Some.atom.now es c.next.new.self (subst Rising (sym whole) c.self.invariant.labelled.rising)) c.loop-label.invariant.index

pub enter-requires-clause-fits : goal.enter-requires-clause-fits
enter-requires-clause-fits g c =
    let es : Store = map shown c.loop-label.yielded in
    let more = rest_more shown _ _ _ (c.in-Some.label, c.in-Some.atom) c.in-Some.is c.next.ensures.steps in
    let whole : es ++ (c.in-Some.label, c.in-Some.atom.now) ∷ c.next.new.self ≡ c.self.inside.atoms.entries = ap (λ (z : Store). es ++ z) (sym more) ∙ c.loop-label.invariant.whole in
    let before : c.in-Some.label < c.self.inside.atoms.next = given_at c.self.inside.atoms.next c.in-Some.label c.in-Some.atom.now es c.next.new.self (subst (GivenBefore c.self.inside.atoms.next) (sym whole) c.self.invariant.labelled.given) in
    omega (arith, before, c.self.invariant.labelled.within, c.self.invariant.labelled.limit)

pub loop-label-init : goal.loop-label-init
loop-label-init g c = record {
  whole = c.into_iter-label-iterator.ensures.into_iter_gives ∙ c.iter-label-items.ensures.rest;
  index = kept_none c.self.inside.buckets.places c.new-buckets.result c.new-buckets.ensures.none;
  places = c.new-buckets.ensures.places ∙ c.in_ok-copy.ensures;
}

pub invariant_of-result : goal.invariant_of-result
invariant_of-result g c =
    let es : Store = map shown c.loop-label.yielded in
    let whole : es ≡ c.self.inside.atoms.entries = sym (append-nil es) ∙ ap (λ (z : Store). es ++ z) (sym (rest_all shown _ _ _ c.in-None.is c.next.ensures.steps)) ∙ c.loop-label.invariant.whole in
    indexed_by (seen c.in_ok-copy-2.field-0 c.self.inside.limit) c.self.inside.buckets.places c.loop-label.buckets.places c.loop-label.buckets c.loop-label.invariant.places
    (subst (λ (z : GivenAtoms). IsIndexed (seen z c.self.inside.limit) c.self.inside.buckets.places c.loop-label.buckets) (sym c.in_ok-copy-2.ensures)
    (record {
      labelled = c.self.invariant.labelled;
      index = subst (λ (z : Store). IsIndexOf c.self.inside.buckets.places z c.loop-label.buckets) whole c.loop-label.invariant.index;
    }))

pub returns : goal.returns
returns g c =
    ap (λ (z : GivenAtoms). seen z c.self.inside.limit) c.in_ok-copy-2.ensures ∙ c.self.view_is
