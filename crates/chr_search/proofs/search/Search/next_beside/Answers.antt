use Rattle.chr_search.specs.Verdicts.{position}
use Rattle.chr_search.proofs.Fronts.{next_ends}
use Rattle.chr_search.proofs.search.Search.next_beside.Goals as goal

pub returns : goal.returns
returns g c = next_ends _ _ _ (position c.args.part.now) _ c.if-not-find_to.ensures c.label_after.ensures
