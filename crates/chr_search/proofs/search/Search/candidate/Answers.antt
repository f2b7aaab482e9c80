use Rattle.std.proofs.Common.{sym, subst}
use Rattle.chr_search.specs.Trials.{older, IsNext}
use Rattle.chr_search.proofs.Making.{next_trial}
use Rattle.chr_search.proofs.search.Search.candidate.Goals as goal

pub at-requires-clause-admissible : goal.at-requires-clause-admissible
at-requires-clause-admissible g c = (c.args.self.now.label, next_trial _ _ _ c.if-not-find_to.ensures)

pub returns : goal.returns
returns g c =
    (subst (IsNext (older c.args.program.now c.args.plans.now c.args.store.now.entries c.args.self.now.label) c.args.self.now.place) (sym c.in_ok-at.ensures.0) c.if-not-find_to.ensures, c.in_ok-at.ensures.1)
