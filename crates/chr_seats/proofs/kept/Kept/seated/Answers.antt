use Rattle.chr_seats.proofs.Alike.{version_none}
use Rattle.chr_seats.proofs.kept.Kept.seated.Goals as goal

pub returns-clause-workers : goal.returns-clause-workers
returns-clause-workers g c = c.seat_all-posts.ensures.workers _ c.requires.counts

pub returns-clause-sessions : goal.returns-clause-sessions
returns-clause-sessions g c = c.seat_all-posts.ensures.sessions _ c.requires.counts

pub invariant_of-kept : goal.invariant_of-kept
invariant_of-kept g c = (c.seat_all-posts.ensures.counted _ c.requires.counts, c.requires.there, version_none c.args.book 0 c.named-versions.result c.named-versions.ensures)
