use Rattle.std.proofs.Common.{rules, ◌≡◌, IfSome, sym, subst}
use Rattle.chr_search.specs.declared.judged.Verdict.TheVariants.{Whole}
use Rattle.chr_search.specs.Judged.{Judgement, IsSettledUnder}
use Rattle.chr_search.specs.Verdicts.{IsWholeUnder}
use Rattle.chr_search.proofs.judged.Judged.binding.Goals as goal

pub returns-in-Some-plain : goal.returns-in-Some-plain
returns-in-Some-plain g c =
    let t = c.self.inside.trial in
    let kept : IsSettledUnder t c.in-Some.settled = subst (λ o. IfSome o (IsSettledUnder t)) c.in-Some.is c.self.invariant.1 in
    let again : c.in-Some-plain.binding ≡ kept.binding = c.in-Some-plain.ensures kept.binding kept.settled in
    subst (IsWholeUnder c.args.self.now.trial) (sym again) (subst (λ (j : Judgement). IsWholeUnder j.trial kept.binding) c.self.view_is kept.under)

pub returns : goal.returns
returns g c =
    let is : c.judge_by.result ≡ Whole = search rules in
    subst (λ (j : Judgement). IsWholeUnder j.trial c.judge_by.new.binding) c.self.view_is (c.judge_by.ensures.whole is)
