use Rattle.std.proofs.Common.{sym, subst, ap, ◌∙◌}
use Rattle.chr_search.specs.Positions.{past, front}
use Rattle.chr_search.specs.Trials.{older, IsNext}
use Rattle.chr_search.specs.Verdicts.{position}
use Rattle.chr_search.proofs.Making.{next_trial}
use Rattle.chr_search.proofs.search.Search.behind.Goals as goal

pub at-requires-clause-admissible : goal.at-requires-clause-admissible
at-requires-clause-admissible g c = (c.args.self.now.label, next_trial _ _ _ c.in-Some.ensures.0)

pub returns-in_ok-at-in-Some : goal.returns-in_ok-at-in-Some
returns-in_ok-at-in-Some g c =
    let is = c.in_ok-at-in-Some.ensures.0 in (
      subst (IsNext (older c.args.program.now c.args.plans.now c.args.store.now.entries c.args.self.now.label) (past (position c.args.trial.now))) (sym is) c.in-Some.ensures.0,
      ap front is ∙ c.in-Some.ensures.1,
      c.in_ok-at-in-Some.ensures.1,
    )
