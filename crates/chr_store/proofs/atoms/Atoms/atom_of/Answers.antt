use Rattle.std.proofs.Common.{◌≡◌, ◌<◌, ◌∙◌, sym, ap, length, refl, arith}
use Rattle.std.proofs.lemmas.Option.{slice_get_read, slice_get_within}
use Rattle.chr_value.specs.Stores.{atom_at}
use Rattle.chr_store.specs.Labels.{GivenAtoms}
use Rattle.chr_store.specs.Table.{atom_in}
use Rattle.chr_store.proofs.Table.{seen, seen_in, slot_given}
use Rattle.chr_store.proofs.atoms.Atoms.atom_of.Given.{Over}
use Rattle.chr_store.proofs.atoms.Atoms.atom_of.Goals as goal
use Rattle.chr_store.proofs.atoms.Atoms.atom_of.Goals.{After-index_of, After-index}

slot_within : (g : Over) (c : After-index_of g) → c.index_of.result < length c.self.inside.slots.items
slot_within g c =
    let i = c.self.inside in
    slot_given i.held.items c.self.invariant.0.free i.slots.items c.self.invariant.0.table c.args.label c.index_of.result c.requires.0 c.index_of.ensures (ap (λ (s : GivenAtoms). atom_at s.entries c.args.label) c.self.view_is ∙ c.requires.1)

pub index-requires : goal.index-requires
index-requires g c = (let lt = slot_within g (goal.at.index-requires g c).After-index_of in omega (arith, lt))

-- what the slot holds is the label's
held : (g : Over) (c : After-index g) → atom_at c.args.self.now.entries c.args.label ≡ atom_in c.self.inside.held.items c.index.result.now
held g c =
    let i = c.self.inside in
    let lt = slot_within g (goal.at.After-index g c).After-index_of in
    let slot = slice_get_read i.slots.items (length i.slots.items) c.index_of.result c.index.result.now refl lt c.index.ensures in
    ap (λ (s : GivenAtoms). atom_at s.entries c.args.label) (sym c.self.view_is) ∙ seen i.held.items c.self.invariant.0.free i.slots.items c.self.invariant.0.table c.args.label c.index_of.result c.index_of.ensures ∙ ap (seen_in i.held.items) slot

slot_holds : (g : Over) (c : After-index g) → c.index.result.now < length c.self.inside.held.items
slot_holds g c = slice_get_within c.self.inside.held.items c.index.result.now c.requires.0 (sym (held g c) ∙ c.requires.1)

pub index-requires-2 : goal.index-requires-2
index-requires-2 g c = (let lt = slot_holds g (goal.at.index-requires-2 g c).After-index in omega (arith, lt))

pub returns : goal.returns
returns g c =
    let at = goal.at.returns g c in
    let i = c.self.inside in
    held g at.After-index ∙ slice_get_read i.held.items (length i.held.items) c.index.result.now c.index-2.result.now refl (slot_holds g at.After-index) c.index-2.ensures
