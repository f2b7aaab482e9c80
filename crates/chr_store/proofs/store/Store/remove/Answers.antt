use Rattle.std.proofs.Common.{◌≡◌, subst, sym, ap, ◌∙◌, option_copied}
use Rattle.chr_value.specs.Stores.{Store, drop_label}
use Rattle.chr_store.specs.Labels.{GivenAtoms, LabelledStore}
use Rattle.chr_store.specs.Indexed.{IsIndexed}
use Rattle.chr_store.proofs.Table.{given, labelled_drop, drop_none}
use Rattle.chr_store.proofs.Stored.{seen, indexed_by, kept_drop}
use Rattle.chr_store.proofs.store.Store.remove.Goals as goal

pub returns-in_default-clause-rest : goal.returns-in_default-clause-rest
returns-in_default-clause-rest g c =
    subst (λ (s : LabelledStore). s ≡ record { entries = drop_label c.args.label s.entries; next = s.next; limit = s.limit }) c.self.view_is
    (sym (ap (λ (z : Store). seen (given z c.self.inside.atoms.next) c.self.inside.limit) (drop_none c.args.label c.self.inside.atoms.entries (sym c.get.ensures ∙ ap option_copied c.in_default.is))))

pub invariant_of-self : goal.invariant_of-self
invariant_of-self g c =
    let i = c.self.inside in
    let es = i.atoms.entries in
    let old = i.buckets.places in
    let l = c.leave.ensures in
    indexed_by (seen c.remove.new.self i.limit) old c.leave.new.buckets.places c.leave.new.buckets l.places
    (subst (λ (z : GivenAtoms). IsIndexed (seen z i.limit) old c.leave.new.buckets) (sym c.remove.ensures.rest)
    (record { labelled = labelled_drop c.args.label i.atoms.next i.limit es c.self.invariant.labelled; index = kept_drop old c.args.label c.in-Some.atom.now es i.buckets c.leave.new.buckets c.self.invariant.labelled.rising (sym c.in-Some.ensures) c.self.invariant.index l.changed }))
