use Rattle.std.proofs.Common.{◌+◌, ◌∙◌, ◌≤◌, ◌∷◌, ◌++◌, [], sym, ap, length, arith, subst}
use Rattle.chr_store.specs.Labels.{GivenAtoms}
use Rattle.chr_store.specs.Table.{no_slot, held_in, HasTable}
use Rattle.chr_store.specs.Blocks.{AreCounts}
use Rattle.chr_store.proofs.Table.{skipped, skipped_all, without_atom, table_of, skipped_counts}
use Rattle.chr_store.proofs.atoms.Atoms.skip.Goals as goal

pub invariant_of-self-2 : goal.invariant_of-self-2
invariant_of-self-2 g c =
    let i = c.self.inside in
    let h = c.self.invariant.0 in
    let room : length i.slots.items + 1 ≤ 4294967295 = (let e = ap (λ (s : GivenAtoms). s.next) c.self.view_is in let most = c.requires in omega arith) in
    let items = c.push_reserved.ensures.items ∙ ap (λ xs. xs ++ no_slot ∷ []) c.make_room.ensures.slots in
    let counts = c.make_room.new.counts.items in
    (subst (HasTable i.held.items i.free i.len) (sym items) (skipped_all i.held.items h.free i.slots.items h.table i.free i.len h.linked h.count room), subst (λ xs. AreCounts (held_in i.held.items xs) counts) (sym items) (skipped_counts i.held.items h.free i.slots.items h.table counts (c.make_room.ensures.counted i.held.items c.self.invariant.1) c.in_ok-make_room.ensures.block))

pub returns-clause-ok : goal.returns-clause-ok
returns-clause-ok g c =
    let i = c.self.inside in
    ap (table_of i.held.items) (c.push_reserved.ensures.items ∙ ap (λ xs. xs ++ no_slot ∷ []) c.make_room.ensures.slots) ∙ skipped i.held.items c.self.invariant.0.free i.slots.items c.self.invariant.0.table ∙ ap without_atom c.self.view_is
