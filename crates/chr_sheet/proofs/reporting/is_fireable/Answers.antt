use Rattle.std.proofs.Common.{subst, rules}
use Rattle.chr_sheet.proofs.Words.{space_in, IsFireable}
use Rattle.chr_search.specs.Answers.{IsToldNext}
use Rattle.chr_sheet.proofs.Turns.{told_fireable}
use Rattle.chr_sheet.proofs.reporting.is_fireable.Goals as goal

pub returns-in-Some : goal.returns-in-Some
returns-in-Some g c =
    let s = space_in c.args.setting.now c.args.search.now.label in
    let told = subst (λ t. IsToldNext s c.args.search.now.place t c.is_next.result) c.trial.ensures c.is_next.ensures in
    subst (λ w. IsFireable s c.args.search.now.place w c.eq.result) c.in-Some.ensures.whole (told_fireable s _ _ _ c.eq.result told (λ h. search rules) (λ h. search rules))
