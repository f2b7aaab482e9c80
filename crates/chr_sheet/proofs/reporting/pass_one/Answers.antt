use Rattle.std.proofs.Common.{◌≡◌, ◌≢◌, true, Some, refl, rules}
use Rattle.chr_sheet.proofs.Words.{space_in, Judgement}
use Rattle.chr_sheet.proofs.Turns.{told_not, told_is, one_moved, one_passes}
use Rattle.chr_sheet.proofs.reporting.pass_one.Goals as goal

pub returns-then-ne-clause-reports : goal.returns-then-ne-clause-reports
returns-then-ne-clause-reports g c =
    let isnt : c.is_next.result ≢ Some true = search rules in
    one_passes _ _ _ (told_not _ _ _ _ c.is_next.ensures isnt)

pub returns-clause-reports : goal.returns-clause-reports
returns-clause-reports g c =
    let j : Judgement = record { trial = c.args.trial.now; verdict = c.args.verdict } in
    let is : c.is_next.result ≡ Some true = search rules in
    one_moved (space_in c.args.setting.now c.args.search.now.label) _ j _ _ _ c.advance_by.new.self (told_is _ _ _ _ c.is_next.ensures is) c.requires.other refl refl c.advance_by.ensures
