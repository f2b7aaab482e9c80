use Rattle.std.proofs.Common.{ap, ◌∙◌}
use Rattle.chr_partners.specs.Atoms.{held_at}
use Rattle.chr_partners.proofs.Holding.{seen_of}
use Rattle.chr_partners.proofs.atoms.Atoms.held.Goals as goal

pub returns : goal.returns
returns g c =
    let i = c.self.inside in
    seen_of i.held i.slots.items c.args.self.now c.self.view_is c.args.label c.find.result (c.find.ensures ∙ ap (λ xs. held_at i.held xs c.args.label) c.deref.ensures.value)
