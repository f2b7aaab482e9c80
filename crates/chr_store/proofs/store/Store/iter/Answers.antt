use Rattle.std.proofs.Common.{◌∙◌, ap}
use Rattle.std.proofs.lemmas.Iterator.Consumers.{YieldsList-from_rest}
use Rattle.chr_store.specs.Labels.{LabelledStore}
use Rattle.chr_store.specs.Table.{shown}
use Rattle.chr_store.proofs.store.Store.iter.Goals as goal

pub returns-clause-shows : goal.returns-clause-shows
returns-clause-shows g c = (YieldsList-from_rest {shows = shown} c.args.self.now.entries (c.iter.ensures.rest ∙ ap (λ (s : LabelledStore). s.entries) c.self.view_is)).runs
