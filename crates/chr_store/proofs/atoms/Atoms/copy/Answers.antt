use Rattle.std.proofs.Common.{◌<◌, ◌∙◌, sym, ap, length, slice_get, slice_index, option_copied, arith}
use Rattle.chr_store.proofs.Table.{copied_none, copied_some}
use Rattle.chr_store.proofs.atoms.Atoms.copy.Goals.{in-None+in_ok-skip-in-None, in-Some+in_ok-push_copy-in-Some}
use Rattle.chr_store.proofs.atoms.Atoms.copy.Goals as goal

pub loop-slot-preserved : goal.loop-slot-preserved
loop-slot-preserved g c =
    let items = c.deref-slot-items.result.now in
    let inside : c.loop-slot.slot-index < length items = omega arith in
    let s = slice_index items c.loop-slot.slot-index in
    let shown = ap (λ xs. slice_get xs s) (sym c.deref.ensures.value) ∙ sym c.atom_of_slot.ensures in
    elim c.match-atom_of_slot.branch [
      | in-None+in_ok-skip-in-None w ↦ w.made-is ∙ w.in_ok-skip-in-None.ensures.ok ∙ copied_none c.self.inside.held.items items c.loop-slot.slot-index inside c.loop-slot.made c.loop-slot.invariant (shown ∙ ap option_copied w.in-None.is)
      | in-Some+in_ok-push_copy-in-Some w ↦ w.made-is ∙ w.in_ok-push_copy-in-Some.ensures.ok ∙ copied_some c.self.inside.held.items items c.loop-slot.slot-index inside c.loop-slot.made c.loop-slot.invariant w.in-Some.atom.now (shown ∙ ap option_copied w.in-Some.is)
    ]
