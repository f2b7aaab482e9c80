use Rattle.std.proofs.Common.{◌≡◌, ◌≢◌, true, Some, map, sym, ap, subst, ◌∙◌, arith, rules}
use Rattle.chr_sheet.proofs.Words.{length-map, just_after, SearchState, Space, space_in, position, IsPart, IsTrialOf, Row, misfit, trials_of, IsNextTrial, Reports}
use Rattle.chr_search.specs.Answers.{IsToldNext}
use Rattle.chr_sheet.proofs.Turns.{told_not, told_is, part_moves, part_passes, reports_few}
use Rattle.chr_sheet.proofs.reporting.pass_branch.Goals as goal

pub returns-then-ne-clause-reports : goal.returns-then-ne-clause-reports
returns-then-ne-clause-reports g c =
    let isnt : c.is_next.result ≢ Some true = search rules in
    let told = subst (λ t. IsToldNext (space_in c.args.setting.now c.args.search.now.label) c.args.search.now.place t c.is_next.result) c.part-part.ensures.part c.is_next.ensures in
    part_passes _ _ _ _ _ _ (told_not _ _ _ _ told isnt) c.pass_misfits.ensures.reports

pub advance_by-requires : goal.advance_by-requires
advance_by-requires g c = λ e. subst IsPart (sym c.part-part.ensures.part) c.part-part.ensures.row.part

pub pass_behind-requires : goal.pass_behind-requires
pass_behind-requires g c =
    let s : Space = space_in c.args.setting.now c.args.search.now.label in
    let is : c.is_next.result ≡ Some true = search rules in
    let stands = told_is s c.args.search.now.place c.part-part.result.now c.is_next.result c.is_next.ensures is in
    let place = ap (λ (z : SearchState). z.place) c.advance_by.ensures ∙ ap (λ t. just_after (position t)) c.part-part.ensures.part in
    (omega arith, (c.requires, (place, subst (IsTrialOf s.rules s.plans s.store) c.part-part.ensures.part stands.1)))

pub overflow_add-result : goal.overflow_add-result
overflow_add-result g c =
    let few = reports_few _ _ _ (map misfit (trials_of c.args.row.now)) c.pass_behind.result c.pass_behind.ensures.reports in
    omega (arith, few, length-map (trials_of c.args.row.now) misfit, c.count_with_part-count.ensures, c.count_with_part-count.type_inv)

pub returns-clause-reports : goal.returns-clause-reports
returns-clause-reports g c =
    let r : Row = c.args.row.now in
    let mid = c.advance_by.new.self.place in
    let after = c.pass_behind.new.search.place in
    let is : c.is_next.result ≡ Some true = search rules in
    let part = c.part-part.ensures.part in
    let next = subst (IsNextTrial (space_in c.args.setting.now c.args.search.now.label) c.args.search.now.place) part (told_is _ _ _ _ c.is_next.ensures is) in
    let to = ap (λ (z : SearchState). z.place) c.advance_by.ensures ∙ ap (λ t. just_after (position t)) part in
    part_moves _ _ mid after r.part (map misfit (trials_of r)) c.pass_behind.result next to
    (subst (λ l. Reports (space_in c.args.setting.now l) mid (map misfit (trials_of r)) c.pass_behind.result after) (ap (λ (z : SearchState). z.label) c.advance_by.ensures) c.pass_behind.ensures.reports)
