use Rattle.std.proofs.Common.{◌≡◌, sym, subst}
use Rattle.chr_guard.specs.Bindings.{AreKnown}
use Rattle.chr_guard.specs.Matching.{AreAtHeads, IsFit}
use Rattle.chr_search.specs.Fronts.{lengthened}
use Rattle.chr_search.specs.Placed.{placed_as}
use Rattle.chr_search.specs.Verdicts.{Trial, IsWholeUnder, at_heads}
use Rattle.chr_search.proofs.fitted.Fitted.is_misfit.Goals as goal

pub returns-then-not-is_misfit_after-clause-whole : goal.returns-then-not-is_misfit_after-clause-whole
returns-then-not-is_misfit_after-clause-whole g c = λ e part f.
    subst (λ (t : Trial). IsWholeUnder (lengthened t (placed_as c.args.last.now)) c.is_misfit_after.new.binding) f.part (c.is_misfit_after.ensures.whole c.if-not-is_misfit_after.true)

pub returns-clause-fitted : goal.returns-clause-fitted
returns-clause-fitted g c = λ e part f.
    let back : c.return_to.new.self ≡ c.args.binding.now = c.return_to.ensures c.args.binding.now f.known c.is_misfit_after.ensures.keeps in
    record {
      part = f.part;
      last = f.last;
      distinct = f.distinct;
      fit = subst (IsFit part.rule (AreAtHeads part.rule (at_heads part))) (sym back) f.fit;
      known = subst (AreKnown c.args.self.now.known) (sym back) f.known;
    }
