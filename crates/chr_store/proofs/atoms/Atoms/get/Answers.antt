use Rattle.std.proofs.Common.{◌≡◌, ◌∙◌, sym, ap, slice_get, option_copied}
use Rattle.chr_value.specs.Stores.{atom_at}
use Rattle.chr_store.specs.Labels.{GivenAtoms}
use Rattle.chr_store.proofs.Table.{looked_at, seen, seen_in}
use Rattle.chr_store.proofs.atoms.Atoms.get.Given.{Over}
use Rattle.chr_store.proofs.atoms.Atoms.get.Goals as goal
use Rattle.chr_store.proofs.atoms.Atoms.get.Goals.{After-get}

looked : (g : Over) (c : After-get g) → atom_at c.args.self.now.entries c.args.label ≡ seen_in c.self.inside.held.items (option_copied c.get.result)
looked g c =
    let i = c.self.inside in
    let here = ap (λ xs. slice_get xs c.index_of.result) (sym c.deref.ensures.value) ∙ looked_at c.deref.result.now c.index_of.result c.get.result c.get.ensures.lookup in
    ap (λ (s : GivenAtoms). atom_at s.entries c.args.label) (sym c.self.view_is) ∙ seen i.held.items c.self.invariant.0.free i.slots.items c.self.invariant.0.table c.args.label c.index_of.result c.index_of.ensures ∙ ap (seen_in i.held.items) here

pub returns-in_default : goal.returns-in_default
returns-in_default g c = sym (looked g (goal.at.returns-in_default g c).After-get ∙ ap (λ r. seen_in c.self.inside.held.items (option_copied r)) c.in_default.is)

pub returns : goal.returns
returns g c = c.atom_of_slot.ensures ∙ ap (λ xs. slice_get xs c.in-Some.slot.now) c.deref-2.ensures.value ∙ sym (looked g (goal.at.returns g c).After-get ∙ ap (λ r. seen_in c.self.inside.held.items (option_copied r)) c.in-Some.is)
