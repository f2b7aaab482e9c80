use Rattle.std.proofs.Common.{◌≡◌, ◌≢◌, ℕ, ◌+◌, ◌/◌, ◌∙◌, ◌<◌, ◌≤◌, sym, ap, None, Some, length, refl, arith, subst, slice_get, slice_set, get_or}
use Rattle.std.proofs.lemmas.List.{length-map}
use Rattle.std.proofs.lemmas.Option.{slice_get_read, slice_get_past}
use Rattle.chr_value.specs.Atoms.{Atom}
use Rattle.chr_value.specs.Stores.{Store, atom_at}
use Rattle.chr_store.specs.Labels.{GivenAtoms}
use Rattle.chr_store.specs.Table.{no_slot, atom_in, held_in}
use Rattle.chr_store.proofs.Table.{seen, unseen, seen_in, slot_there, IsEmptied, emptied_by, some_there, emptied, emptied_all, without_label, given, drop_none, is_counted, emptied_counts, emptied_one}
use Rattle.chr_store.proofs.atoms.Atoms.remove.Given.{Over}
use Rattle.chr_store.proofs.atoms.Atoms.remove.Goals as goal
use Rattle.chr_store.proofs.atoms.Atoms.remove.Goals.{After-index-slot, After-replace-atom}

pub returns-then-len-index-clause-value : goal.returns-then-len-index-clause-value
returns-then-len-index-clause-value g c =
    sym (ap (λ (s : GivenAtoms). atom_at s.entries c.args.label) (sym c.self.view_is) ∙ unseen c.self.inside.held.items c.self.invariant.0.free c.self.inside.slots.items c.self.invariant.0.table c.args.label c.index_of-index.result c.index_of-index.ensures (omega arith))

pub returns-then-len-index-clause-rest : goal.returns-then-len-index-clause-rest
returns-then-len-index-clause-rest g c =
    let i = c.self.inside in
    let past : length i.slots.items ≤ c.index_of-index.result = omega arith in
    let none : atom_at c.args.self.now.entries c.args.label ≡ None = ap (λ (s : GivenAtoms). atom_at s.entries c.args.label) (sym c.self.view_is) ∙ unseen i.held.items c.self.invariant.0.free i.slots.items c.self.invariant.0.table c.args.label c.index_of-index.result c.index_of-index.ensures past in
    sym (ap (λ (es : Store). given es c.args.self.now.next) (drop_none c.args.label c.args.self.now.entries none))

slot : (g : Over) (c : After-index-slot g) → slice_get c.self.inside.slots.items c.index_of-index.result ≡ Some c.index-slot.result.now
slot g c = slice_get_read c.self.inside.slots.items (length c.self.inside.slots.items) c.index_of-index.result c.index-slot.result.now refl (omega arith) c.index-slot.ensures

-- what the slot holds is the label's
held : (g : Over) (c : After-index-slot g) → atom_at c.args.self.now.entries c.args.label ≡ atom_in c.self.inside.held.items c.index-slot.result.now
held g c =
    let i = c.self.inside in
    ap (λ (s : GivenAtoms). atom_at s.entries c.args.label) (sym c.self.view_is) ∙ seen i.held.items c.self.invariant.0.free i.slots.items c.self.invariant.0.table c.args.label c.index_of-index.result c.index_of-index.ensures ∙ ap (seen_in i.held.items) (slot g c)

none : (g : Over) (c : After-index-slot g) → c.index-slot.result.now ≡ no_slot → atom_at c.args.self.now.entries c.args.label ≡ None
none g c is = held g c ∙ slice_get_past c.self.inside.held.items c.index-slot.result.now (omega (arith, is, c.self.invariant.0.table.fits))

pub returns-then-slot-clause-value : goal.returns-then-slot-clause-value
returns-then-slot-clause-value g c = sym (none g (goal.at.returns-then-slot-clause-value g c).After-index-slot c.if-slot.true)

pub returns-then-slot-clause-rest : goal.returns-then-slot-clause-rest
returns-then-slot-clause-rest g c = sym (ap (λ (es : Store). given es c.args.self.now.next) (drop_none c.args.label c.args.self.now.entries (none g (goal.at.returns-then-slot-clause-rest g c).After-index-slot c.if-slot.true)))

there : (g : Over) (c : After-index-slot g) → c.index-slot.result.now ≢ no_slot → c.index-slot.result.now < length c.self.inside.held.items
there g c is = slot_there c.self.inside.held.items c.self.inside.slots.items c.index_of-index.result c.index-slot.result.now c.self.invariant.0.table.apart (slot g c) is

pub index_mut-requires : goal.index_mut-requires
index_mut-requires g c = (let lt = there g (goal.at.index_mut-requires g c).After-index-slot c.if-slot.false in omega (arith, lt))

is_emptied : (g : Over) (c : After-replace-atom g) → c.index-slot.result.now < length c.self.inside.held.items → IsEmptied c.self.inside.held.items (slice_set c.self.inside.held.items c.index-slot.result.now c.replace-atom.new.dest) c.index-slot.result.now c.replace-atom.result c.replace-atom.new.dest
is_emptied g c lt =
    let held = c.self.inside.held.items in
    let k = c.index-slot.result.now in
    emptied_by held k c.replace-atom.result c.replace-atom.new.dest lt (subst (λ a. a ≡ get_or held k a) (sym c.replace-atom.ensures.value) c.index_mut.ensures.value)

pub overflow_sub-self : goal.overflow_sub-self
overflow_sub-self g c =
    let i = c.self.inside in
    let h = c.self.invariant.0 in
    let at = goal.at.overflow_sub-self g c in
    let k = c.index-slot.result.now in
    let new = slice_set i.held.items k c.replace-atom.new.dest in
    let e = is_emptied g at.After-replace-atom (there g at.After-index-slot c.if-slot.false) in
    let some = some_there i.held.items new h.free i.slots.items h.table k c.index_of-index.result c.replace-atom.result c.replace-atom.new.dest e (slot g at.After-index-slot) in
    omega (arith, some, h.count)

pub index_mut-requires-3 : goal.index_mut-requires-3
index_mut-requires-3 g c =
    let i = c.self.inside in
    let lt = is_counted (held_in i.held.items i.slots.items) i.counts.items c.index_of-index.result ((c.index_of-index.result + 1) / 64) c.self.invariant.1 (omega (arith, length-map i.slots.items (atom_in i.held.items))) refl in
    omega (arith, lt)

pub overflow_sub-index_mut : goal.overflow_sub-index_mut
overflow_sub-index_mut g c =
    let i = c.self.inside in
    let at = goal.at.overflow_sub-index_mut g c in
    let k = c.index-slot.result.now in
    let new = slice_set i.held.items k c.replace-atom.new.dest in
    let e = is_emptied g at.After-replace-atom (there g at.After-index-slot c.if-slot.false) in
    emptied_one i.held.items new c.self.invariant.0.free i.slots.items c.self.invariant.0.table k c.index_of-index.result c.replace-atom.result c.replace-atom.new.dest e (slot g at.After-index-slot) i.counts.items c.index_mut-3.result.now c.self.invariant.1 c.index_mut-3.ensures.value

pub invariant_of-self : goal.invariant_of-self
invariant_of-self g c =
    let i = c.self.inside in
    let at = goal.at.invariant_of-self g c in
    let k = c.index-slot.result.now in
    let new = slice_set i.held.items k c.replace-atom.new.dest in
    let e = is_emptied g at.After-replace-atom (there g at.After-index-slot c.if-slot.false) in
    let its = slot g at.After-index-slot in (
      emptied_all i.held.items new c.self.invariant.0.free i.slots.items c.self.invariant.0.table k c.index_of-index.result c.replace-atom.result c.replace-atom.new.dest e its i.free i.len (ap (λ (x : Atom ℕ). x.name) c.replace-atom.ensures.after ∙ ap (λ (x : Atom ℕ). x.name) c.new-empty.ensures) c.self.invariant.0.linked c.self.invariant.0.count,
      emptied_counts i.held.items new c.self.invariant.0.free i.slots.items c.self.invariant.0.table k c.index_of-index.result c.replace-atom.result c.replace-atom.new.dest e its i.counts.items c.index_mut-3.result.now c.self.invariant.1 c.index_mut-3.ensures.value,
    )

pub returns-clause-value : goal.returns-clause-value
returns-clause-value g c =
    let at = goal.at.returns-clause-value g c in
    let e = is_emptied g at.After-replace-atom (there g at.After-index-slot c.if-slot.false) in
    sym (held g at.After-index-slot ∙ e.there)

pub returns-clause-rest : goal.returns-clause-rest
returns-clause-rest g c =
    let i = c.self.inside in
    let at = goal.at.returns-clause-rest g c in
    let k = c.index-slot.result.now in
    let new = slice_set i.held.items k c.replace-atom.new.dest in
    let e = is_emptied g at.After-replace-atom (there g at.After-index-slot c.if-slot.false) in
    emptied i.held.items new c.self.invariant.0.free i.slots.items c.self.invariant.0.table k c.index_of-index.result c.replace-atom.result c.replace-atom.new.dest e (slot g at.After-index-slot) c.args.label c.index_of-index.ensures ∙ ap (without_label c.args.label) c.self.view_is
