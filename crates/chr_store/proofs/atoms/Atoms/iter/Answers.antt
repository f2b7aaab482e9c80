use Rattle.std.proofs.Common.{arith}
use Rattle.std.proofs.lemmas.List.{length-map}
use Rattle.chr_store.specs.Table.{atom_in, held_in}
use Rattle.chr_store.specs.Blocks.{AreEmptyAtNone}
use Rattle.chr_store.proofs.Table.{at_most, empty_at_none}
use Rattle.chr_store.proofs.atoms.Atoms.iter.Goals as goal

pub returns-clause-fits : goal.returns-clause-fits
returns-clause-fits g c =
    let i = c.self.inside in
    let empty : AreEmptyAtNone 1 (held_in i.held.items c.deref.result.now) c.deref-2.result.now = rw (c.deref.ensures.value, c.deref-2.ensures.value) (empty_at_none (held_in i.held.items i.slots.items) i.counts.items c.self.invariant.1) in
    rw (c.deref-3.ensures.value, c.past_empty-label.ensures.same i.held.items empty, c.deref.ensures.value) (omega (arith, at_most 1 (held_in i.held.items i.slots.items), length-map i.slots.items (atom_in i.held.items), c.self.invariant.0.table.within))
