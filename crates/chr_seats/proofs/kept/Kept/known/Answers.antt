use Rattle.chr_seats.proofs.Alike.{search_of}
use Rattle.chr_seats.proofs.kept.Kept.known.Goals as goal

pub returns-clause-known : goal.returns-clause-known
returns-clause-known g c = search_of c.version.new.self c.self.inside.book c.in-Some.book c.args.number c.args.ticket c.in_ok-version.version c.in_ok-search.search c.self.view_is c.in-Some.is c.in_ok-version.ensures.version c.in_ok-search.ensures
