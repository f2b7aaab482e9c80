use Rattle.std.proofs.Common.{ℕ, ◌+◌, ◌++◌, ◌∷◌, [], subst, sym, ◌∙◌, arith, length}
use Rattle.chr_index.specs.Buckets.{drop_number}
use Rattle.chr_store.specs.Labels.{GivenAtoms}
use Rattle.chr_store.specs.Indexed.{IsIndexed}
use Rattle.chr_store.specs.KeyLabels.{IsChanged}
use Rattle.chr_store.proofs.Table.{labelled_push}
use Rattle.chr_store.proofs.Stored.{seen, indexed_by, changed_by, kept_below, kept_push, kept_undone}
use Rattle.chr_store.proofs.store.Store.insert_copy.Goals as goal

pub enter-requires-clause-below : goal.enter-requires-clause-below
enter-requires-clause-below g c =
    kept_below c.self.inside.buckets.places c.next_label-label.result c.self.inside.atoms.entries c.self.inside.buckets (rw c.next_label-label.ensures c.self.invariant.labelled.given) c.self.invariant.index

pub enter-requires-clause-fits : goal.enter-requires-clause-fits
enter-requires-clause-fits g c = omega (arith, c.if-label-self.false, c.self.invariant.labelled.limit)

pub invariant_of-self : goal.invariant_of-self
invariant_of-self g c =
    let i = c.self.inside in
    let l = c.next_label-label.result in
    let a = c.args.atom.now in
    let old = i.buckets.places in
    indexed_by (seen i.atoms i.limit) old c.leave.new.buckets.places c.leave.new.buckets (c.leave.ensures.places ∙ c.enter.ensures.places)
    (record { labelled = c.self.invariant.labelled; index = kept_undone old c.in_default.ensures.part.0 l a i.atoms.entries i.buckets c.enter.new.buckets c.leave.new.buckets (rw c.next_label-label.ensures c.self.invariant.labelled.given) c.self.invariant.index c.in_default.ensures.part.1 (changed_by (drop_number l) old c.enter.new.buckets.places a (length a.args + 1) c.enter.new.buckets c.leave.new.buckets c.enter.ensures.places c.leave.ensures.changed) })

pub invariant_of-self-in-Ok-push_copy : goal.invariant_of-self-in-Ok-push_copy
invariant_of-self-in-Ok-push_copy g c =
    let i = c.self.inside in
    let old = i.buckets.places in
    let u = subst (λ (n : ℕ). IsChanged (λ ms. ms ++ n ∷ []) old c.args.atom.now (length c.args.atom.now.args + 1) i.buckets c.enter.new.buckets) c.next_label-label.ensures c.in-Ok.ensures.ok in
    indexed_by (seen c.push_copy.new.self i.limit) old c.enter.new.buckets.places c.enter.new.buckets c.enter.ensures.places
    (subst (λ (z : GivenAtoms). IsIndexed (seen z i.limit) old c.enter.new.buckets) (sym c.in-Ok-push_copy.ensures.ok)
    (record {
      labelled = labelled_push i.atoms.next i.limit c.args.atom.now i.atoms.entries (omega arith) c.self.invariant.labelled;
      index = kept_push old i.atoms.next c.args.atom.now i.atoms.entries i.buckets c.enter.new.buckets c.self.invariant.index u;
    }))

pub invariant_of-self-in_default-push_copy : goal.invariant_of-self-in_default-push_copy
invariant_of-self-in_default-push_copy g c =
    let i = c.self.inside in
    let l = c.next_label-label.result in
    let a = c.args.atom.now in
    let old = i.buckets.places in
    let left = c.leave-in_default-push_copy in
    indexed_by (seen c.push_copy.new.self i.limit) old left.new.buckets.places left.new.buckets (left.ensures.places ∙ c.enter.ensures.places)
    (subst (λ (z : GivenAtoms). IsIndexed (seen z i.limit) old left.new.buckets) (sym c.in_default-push_copy.ensures.unchanged)
    (record { labelled = c.self.invariant.labelled; index = kept_undone old (length a.args + 1) l a i.atoms.entries i.buckets c.enter.new.buckets left.new.buckets (rw c.next_label-label.ensures c.self.invariant.labelled.given) c.self.invariant.index c.in-Ok.ensures.ok (changed_by (drop_number l) old c.enter.new.buckets.places a (length a.args + 1) c.enter.new.buckets left.new.buckets c.enter.ensures.places left.ensures.changed) }))
