use Rattle.std.proofs.Common.{ap, sym, subst, ◌∙◌}
use Rattle.std.specs.Option.{option_map}
use Rattle.chr_partners.specs.Partners.{without_label}
use Rattle.chr_partners.specs.Atoms.{held_at, IsSlotOf}
use Rattle.chr_partners.proofs.Holding.{absent, same_without, found_is, slot_gives, seen_dropped}
use Rattle.chr_partners.proofs.atoms.Atoms.remove.Goals as goal

pub returns-in_err-slot-clause-atom : goal.returns-in_err-slot-clause-atom
returns-in_err-slot-clause-atom g c =
    let i = c.self.inside in
    ap (option_map (λ held. held.atom)) c.from_residual.ensures
    ∙ sym (absent i.held i.slots.items c.args.self.now c.self.view_is c.args.label (ap (λ xs. held_at i.held xs c.args.label) (sym c.deref.ensures.value) ∙ c.in_err-slot.ensures))

pub returns-in_err-slot-clause-rest : goal.returns-in_err-slot-clause-rest
returns-in_err-slot-clause-rest g c =
    let i = c.self.inside in
    same_without i.held i.slots.items c.args.self.now c.self.view_is c.args.label (ap (λ xs. held_at i.held xs c.args.label) (sym c.deref.ensures.value) ∙ c.in_err-slot.ensures)

pub returns-clause-atom : goal.returns-clause-atom
returns-clause-atom g c =
    let i = c.self.inside in
    let at = subst (λ xs. IsSlotOf i.held xs c.args.label c.in_ok-slot.slot) c.deref.ensures.value c.in_ok-slot.ensures in
    sym (found_is i.held i.slots.items c.args.self.now c.self.view_is c.args.label c.remove.result (slot_gives i.held i.slots.items c.args.label c.in_ok-slot.slot c.remove.result at c.remove.ensures.value).0)

pub returns-clause-rest : goal.returns-clause-rest
returns-clause-rest g c =
    let i = c.self.inside in
    let at = subst (λ xs. IsSlotOf i.held xs c.args.label c.in_ok-slot.slot) c.deref.ensures.value c.in_ok-slot.ensures in
    let gives = slot_gives i.held i.slots.items c.args.label c.in_ok-slot.slot c.remove.result at c.remove.ensures.value in
    seen_dropped i.held c.remove.new.self i.slots.items at.index c.args.label c.in_ok-slot.slot at.next at.here c.remove.result c.remove.ensures.value gives.1 c.remove.ensures.updates
    ∙ ap (without_label c.args.label) c.self.view_is
