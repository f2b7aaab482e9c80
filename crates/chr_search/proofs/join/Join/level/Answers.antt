use Rattle.chr_search.proofs.join.Join.level.Goals as goal

pub returns : goal.returns
returns g c = record { known = c.known.ensures; at = c.in_ok-at.ensures; partners = c.partners.ensures }
