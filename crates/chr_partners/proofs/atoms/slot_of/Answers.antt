use Rattle.std.proofs.Common.{◌≡◌, suc, ap, sym, ◌∙◌, arith}
use Rattle.std.specs.Option.{option_copied}
use Rattle.slab.specs.Slab.{get}
use Rattle.chr_partners.proofs.Holding.{by_slot, held_by_slot, looked_at, match_none, owned_some}
use Rattle.chr_partners.proofs.atoms.slot_of.Goals as goal

pub returns-in_err-slot : goal.returns-in_err-slot
returns-in_err-slot g c =
    let next : c.args.label ≡ suc c.in_ok-index.index = omega (arith, c.in_ok-index.ensures) in
    match_none _ _ _ c.from_residual-in_err-slot.ensures
    (held_by_slot c.args.held.now c.args.slots.now c.in_ok-index.index c.args.label next ∙ ap (by_slot c.args.held.now c.args.label) (looked_at c.args.slots.now c.in_ok-index.index c.get.result c.get.ensures.lookup ∙ ap option_copied c.in_err-slot.was))

pub returns-in_err-owned : goal.returns-in_err-owned
returns-in_err-owned g c =
    let next : c.args.label ≡ suc c.in_ok-index.index = omega (arith, c.in_ok-index.ensures) in
    match_none _ _ _ c.from_residual-in_err-owned.ensures
    (held_by_slot c.args.held.now c.args.slots.now c.in_ok-index.index c.args.label next ∙ ap (by_slot c.args.held.now c.args.label) (looked_at c.args.slots.now c.in_ok-index.index c.get.result c.get.ensures.lookup ∙ ap option_copied c.in_ok-slot.was)
    ∙ (sym c.owned.ensures ∙ ap option_copied c.in_err-owned.was))

pub returns : goal.returns
returns g c =
    let some = owned_some c.args.label (get c.args.held.now c.in_ok-slot.slot.now) c.in_ok-owned.field-0.now (sym c.owned.ensures ∙ ap option_copied c.in_ok-owned.was) in
    record {
      index = c.in_ok-index.index;
      next = omega (arith, c.in_ok-index.ensures);
      here = looked_at c.args.slots.now c.in_ok-index.index c.get.result c.get.ensures.lookup ∙ ap option_copied c.in_ok-slot.was;
      has = c.in_ok-owned.field-0.now;
      there = some.0;
      own = some.1;
    }
