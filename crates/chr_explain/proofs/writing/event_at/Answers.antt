use Rattle.chr_explain.proofs.Known.{looked, event_looked}
use Rattle.chr_explain.proofs.writing.event_at.Goals as goal

pub returns : goal.returns
returns g c = event_looked c.args.events.now c.args.place c.get.result (looked c.args.events.now c.args.place c.get.result c.get.ensures.lookup.1 c.get.ensures.lookup.3)
