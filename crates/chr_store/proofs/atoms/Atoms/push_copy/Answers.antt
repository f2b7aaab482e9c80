use Rattle.std.proofs.Common.{◌≡◌, ◌/◌, slice_set, ap₂, ◌+◌, ◌∙◌, ◌≤◌, ◌<◌, ◌∷◌, ◌++◌, [], sym, ap, length, arith, subst, drop}
use Rattle.std.proofs.lemmas.List.{length-map}
use Rattle.chr_store.specs.Labels.{GivenAtoms}
use Rattle.chr_store.specs.Table.{atom_in, held_in, no_slot, HasTable}
use Rattle.chr_store.specs.Blocks.{AreCounts}
use Rattle.chr_store.proofs.Table.{IsFilled, filled_by, filled, filled_all, with_atom, table_of, filled_counts, count_grows, first_there, at_most}
use Rattle.chr_store.proofs.atoms.Atoms.push_copy.Given.{Over}
use Rattle.chr_store.proofs.atoms.Atoms.push_copy.Goals as goal
use Rattle.chr_store.proofs.atoms.Atoms.push_copy.Goals.{After-fill_slot-slot}

is_filled : (g : Over) (c : After-fill_slot-slot g) → IsFilled c.self.inside.held.items c.fill_slot-slot.new.held.items c.self.invariant.0.free (drop 1 c.self.invariant.0.free) c.self.inside.slots.items c.fill_slot-slot.new.free c.fill_slot-slot.result c.args.atom.now
is_filled g c =
    let i = c.self.inside in
    let h = c.self.invariant.0 in
    let room : length i.slots.items < no_slot = (let e = ap (λ (s : GivenAtoms). s.next) c.self.view_is in let most = c.requires in omega arith) in
    let held = c.reserve_slot.ensures.held in
    let copied = c.in_ok-copied.ensures in
    filled_by i.held.items i.slots.items c.args.atom.now c.fill_slot-slot.new.held.items h.free i.free c.fill_slot-slot.new.free c.fill_slot-slot.result room h.table h.linked
    (λ some. let w = c.fill_slot-slot.ensures.again some in (w.0, w.1 ∙ ap₂ (λ xs x. slice_set xs c.fill_slot-slot.result x) held copied))
    (λ empty is. c.fill_slot-slot.ensures.next empty (ap (λ xs. atom_in xs i.free) held ∙ is))
    (λ none. let w = c.fill_slot-slot.ensures.more none in (w.0, w.1 ∙ ap length held, w.2 ∙ ap₂ (λ xs x. xs ++ x ∷ []) held copied))

pub fill_slot-slot-requires-clause-there : goal.fill_slot-slot-requires-clause-there
fill_slot-slot-requires-clause-there g c is =
    let i = c.self.inside in
    let h = c.self.invariant.0 in
    let lt : i.free < length i.held.items = first_there i.held.items i.free h.free i.slots.items h.table h.linked is in
    omega (arith, lt, ap length c.reserve_slot.ensures.held)

pub overflow_add-index_mut : goal.overflow_add-index_mut
overflow_add-index_mut g c =
    let i = c.self.inside in
    let size = length-map i.slots.items (atom_in i.held.items) in
    let room : length i.slots.items + 1 ≤ 4294967295 = (let e = ap (λ (s : GivenAtoms). s.next) c.self.view_is in let most = c.requires in omega arith) in
    let most = count_grows (held_in i.held.items i.slots.items) c.make_room.new.counts.items ((c.len.result + 1) / 64) c.index_mut.result.now (c.make_room.ensures.counted i.held.items c.self.invariant.1) (omega (arith, c.in_ok-make_room.ensures.block)) (omega (arith, ap length c.make_room.ensures.slots)) c.index_mut.ensures.value in
    omega arith

pub overflow_add-self : goal.overflow_add-self
overflow_add-self g c =
    let i = c.self.inside in
    let room : length i.slots.items + 1 ≤ 4294967295 = (let e = ap (λ (s : GivenAtoms). s.next) c.self.view_is in let most = c.requires in omega arith) in
    omega (arith, room, c.self.invariant.0.count, at_most 1 (held_in i.held.items i.slots.items), length-map i.slots.items (atom_in i.held.items))

pub invariant_of-self-2 : goal.invariant_of-self-2
invariant_of-self-2 g c =
    let i = c.self.inside in
    let h = c.self.invariant.0 in
    let f = is_filled g (goal.at.invariant_of-self-2 g c).After-fill_slot-slot in
    let slot = c.fill_slot-slot.result in
    let new = c.fill_slot-slot.new.held.items in
    let next = c.fill_slot-slot.new.free in
    let room : length i.slots.items + 1 ≤ 4294967295 = (let e = ap (λ (s : GivenAtoms). s.next) c.self.view_is in let most = c.requires in omega arith) in
    let items = c.push_reserved.ensures.items ∙ ap (λ xs. xs ++ slot ∷ []) c.make_room.ensures.slots in
    let counts = c.make_room.new.counts.items in
    let at : (c.len.result + 1) / 64 ≡ (length i.slots.items + 1) / 64 = omega (arith, ap length c.make_room.ensures.slots) in (
      subst (HasTable new next (i.len + 1)) (sym items) (filled_all i.held.items new h.free i.slots.items h.table (drop 1 h.free) next slot c.args.atom.now f i.len h.count room),
      subst (λ xs. AreCounts (held_in new xs) (slice_set counts ((c.len.result + 1) / 64) (c.index_mut.result.now + 1))) (sym items)
          (filled_counts i.held.items new h.free i.slots.items h.table (drop 1 h.free) next slot c.args.atom.now f counts ((c.len.result + 1) / 64) c.index_mut.result.now (c.make_room.ensures.counted i.held.items c.self.invariant.1) c.in_ok-make_room.ensures.block at c.index_mut.ensures.value),
    )

pub returns-clause-ok : goal.returns-clause-ok
returns-clause-ok g c =
    let i = c.self.inside in
    let h = c.self.invariant.0 in
    let slot = c.fill_slot-slot.result in
    let new = c.fill_slot-slot.new.held.items in
    let items = c.push_reserved.ensures.items ∙ ap (λ xs. xs ++ slot ∷ []) c.make_room.ensures.slots in
    ap (table_of new) items ∙ filled i.held.items new h.free i.slots.items h.table (drop 1 h.free) c.fill_slot-slot.new.free slot c.args.atom.now (is_filled g (goal.at.returns-clause-ok g c).After-fill_slot-slot) ∙ ap (with_atom c.args.atom.now) c.self.view_is
