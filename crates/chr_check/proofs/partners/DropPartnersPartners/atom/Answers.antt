use Rattle.std.proofs.Common.{Bor, ◌∙◌}
use Rattle.chr_value.specs.Atoms.{Atom}
use Rattle.chr_check.specs.Goals.{goals_of}
use Rattle.chr_check.proofs.Stores.{own_found, listed_found}
use Rattle.chr_check.proofs.partners.DropPartnersPartners.atom.Goals as goal

pub returns-then-label-self : goal.returns-then-label-self
returns-then-label-self g c =
    let r = c.args.self.now.replay.now in
    c.get.ensures ∙ own_found r.version (goals_of r.goals.items) c.args.self.now.label r.store c.args.label c.if-label-self.true

pub returns-else-label-self : goal.returns-else-label-self
returns-else-label-self g c =
    let r = c.args.self.now.replay.now in
    listed_found (λ (b : Bor (Atom _)). b.now) r.version (goals_of r.goals.items) c.args.self.now.label r.store c.args.label c.get_listed.result c.args.self.now.kept.listed c.if-label-self.false c.get_listed.ensures
