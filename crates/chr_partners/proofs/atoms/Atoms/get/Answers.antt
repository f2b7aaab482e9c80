use Rattle.std.proofs.Common.{ap, sym, ◌∙◌, option_copied}
use Rattle.chr_partners.specs.Atoms.{held_at}
use Rattle.chr_partners.proofs.Holding.{absent, found_is}
use Rattle.chr_partners.proofs.atoms.Atoms.get.Goals as goal

pub returns-in_err-held : goal.returns-in_err-held
returns-in_err-held g c =
    let i = c.self.inside in
    ap option_copied c.from_residual.ensures
    ∙ sym (absent i.held i.slots.items c.args.self.now c.self.view_is c.args.label (ap (λ xs. held_at i.held xs c.args.label) (sym c.deref.ensures.value) ∙ sym c.find.ensures ∙ ap option_copied c.in_err-held.was))

pub returns : goal.returns
returns g c =
    let i = c.self.inside in
    sym (found_is i.held i.slots.items c.args.self.now c.self.view_is c.args.label c.in_ok-held.held.now (ap (λ xs. held_at i.held xs c.args.label) (sym c.deref.ensures.value) ∙ sym c.find.ensures ∙ ap option_copied c.in_ok-held.was))
