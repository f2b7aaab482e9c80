use Rattle.chr_check.specs.Goals.{goals_of}
use Rattle.chr_check.proofs.Stores.{partner_there, in_contains}
use Rattle.chr_check.proofs.partners.DropPartnersPartners.labels.Goals as goal

pub returns : goal.returns
returns g c = λ l a there ne named.
    let r = c.args.self.now.replay.now in
    in_contains l c.candidates.result.now (c.candidates.ensures l a (partner_there r.version (goals_of r.goals.items) c.args.self.now.label r.store l a c.args.self.now.kept.listed ne there) named)
