use Rattle.chr_crew.proofs.Held.{quiet_free}
use Rattle.chr_crew.proofs.crew.put_all_down.Goals as goal

pub returns-then-quiet-clause-none : goal.returns-then-quiet-clause-none
returns-then-quiet-clause-none g c = quiet_free c.args.workers c.args.book.now.tickets (c.quiet-quiet.ensures.quiet.0 c.if-quiet.true)
