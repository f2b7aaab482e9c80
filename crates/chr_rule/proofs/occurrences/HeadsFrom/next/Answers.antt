use Rattle.std.proofs.Common.{subst}
use Rattle.std.proofs.lemmas.List.{nil_from_length}
use Rattle.chr_rule.specs.Occurrences.{AreListedFrom}
use Rattle.chr_rule.proofs.occurrences.HeadsFrom.next.Goals as goal

pub returns-clause-next : goal.returns-clause-next
returns-clause-next c = λ rules s i are.
    subst (AreListedFrom rules c.args.self.now.pred s i) (nil_from_length _ c.in_default.ensures.cases) (c.loop-first.invariant.ahead rules s i are)
