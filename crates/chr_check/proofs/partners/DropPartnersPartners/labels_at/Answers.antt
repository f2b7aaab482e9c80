use Rattle.chr_check.specs.Goals.{goals_of}
use Rattle.chr_check.proofs.Stores.{partner_there, in_contains, place_alike}
use Rattle.chr_check.proofs.partners.DropPartnersPartners.labels_at.Goals as goal

pub returns : goal.returns
returns g c = λ l a there ne has.
    let r = c.args.self.now.replay.now in
    in_contains l c.candidates_at.result.now
    (c.candidates_at.ensures l a (partner_there r.version (goals_of r.goals.items) c.args.self.now.label r.store l a c.args.self.now.kept.listed ne there) has.0 (place_alike a c.args.place _ has.1))
