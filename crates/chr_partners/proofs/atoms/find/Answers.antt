use Rattle.std.proofs.Common.{◌≡◌, suc, ap, sym, ◌∙◌, arith}
use Rattle.std.specs.Option.{option_copied}
use Rattle.chr_partners.proofs.Holding.{by_slot, held_by_slot, looked_at}
use Rattle.chr_partners.proofs.atoms.find.Goals as goal

pub returns-in_err-slot : goal.returns-in_err-slot
returns-in_err-slot g c =
    let next : c.args.label ≡ suc c.in_ok-index.index = omega (arith, c.in_ok-index.ensures) in
    ap option_copied c.from_residual-in_err-slot.ensures
    ∙ sym (held_by_slot c.args.held.now c.args.slots.now c.in_ok-index.index c.args.label next ∙ ap (by_slot c.args.held.now c.args.label) (looked_at c.args.slots.now c.in_ok-index.index c.get.result c.get.ensures.lookup ∙ ap option_copied c.in_err-slot.was))

pub returns : goal.returns
returns g c =
    let next : c.args.label ≡ suc c.in_ok-index.index = omega (arith, c.in_ok-index.ensures) in
    c.owned.ensures
    ∙ sym (held_by_slot c.args.held.now c.args.slots.now c.in_ok-index.index c.args.label next ∙ ap (by_slot c.args.held.now c.args.label) (looked_at c.args.slots.now c.in_ok-index.index c.get.result c.get.ensures.lookup ∙ ap option_copied c.in_ok-slot.was))
