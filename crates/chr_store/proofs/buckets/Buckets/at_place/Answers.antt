use Rattle.std.proofs.Common.{◌≤◌, List, length, refl, sym, ap, subst, ◌∙◌, ltb-false, ltb-true}
use Rattle.chr_value.specs.declared.atom.Pred.{Pred}
use Rattle.chr_index.specs.Indexed.{Indexed, labels_of}
use Rattle.chr_store.specs.Index.{number_of, pred_of}
use Rattle.chr_store.specs.KeyLabels.{index_at, index_key}
use Rattle.chr_store.proofs.Keeping.{chosen_some, place_labels_are, index_past, index_is}
use Rattle.chr_store.proofs.buckets.Buckets.at_place.Goals as goal

pub returns-in-None : goal.returns-in-None
returns-in-None g c =
    let b = c.args.self.now in
    let k = c.args.key.now in
    let asked = c.number.ensures ∙ ap (λ (p : Pred). number_of b.places p c.place.result) c.pred.ensures ∙ ap (number_of b.places (pred_of k)) c.place.ensures in
    let past : length b.indexes.items ≤ c.in-Some.number = subst (λ (is : List Indexed). length is ≤ c.in-Some.number) c.deref.ensures.value (ltb-false c.in-Some.number (length c.deref.result.now) (sym c.in-None.ensures.lookup.0)) in
    let there = chosen_some b.places b.places (pred_of k) k.place c.in-Some.number c.number.result refl asked c.in-Some.is in
    (c.none.ensures ∙ sym (place_labels_are b k c.in-Some.number (sym asked ∙ c.in-Some.is) ∙ index_past b.indexes.items c.in-Some.number k.value past), there.0, there.1)

pub returns-in-Some-get : goal.returns-in-Some-get
returns-in-Some-get g c =
    let b = c.args.self.now in
    let k = c.args.key.now in
    let is = c.deref.result.now in
    let asked = c.number.ensures ∙ ap (λ (p : Pred). number_of b.places p c.place.result) c.pred.ensures ∙ ap (number_of b.places (pred_of k)) c.place.ensures in
    let there = chosen_some b.places b.places (pred_of k) k.place c.in-Some.number c.number.result refl asked c.in-Some.is in (
      c.matches.ensures ∙ sym (place_labels_are b k c.in-Some.number (sym asked ∙ c.in-Some.is) ∙ ap (λ (z : List Indexed). index_at z c.in-Some.number k.value) (sym c.deref.ensures.value)
          ∙ index_is is c.in-Some.number c.in-Some-get.index.now k.value (ltb-true c.in-Some.number (length is) (sym c.in-Some-get.ensures.lookup.0)) c.in_index.ensures.word
          ∙ ap (λ (i : Indexed). labels_of i (index_key k.value)) (sym c.in-Some-get.ensures.lookup.1) ∙ ap (labels_of c.in-Some-get.index.now) (sym c.in_index.ensures.key)),
      there.0,
      there.1,
    )
