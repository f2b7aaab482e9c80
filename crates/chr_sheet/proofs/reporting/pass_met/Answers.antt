use Rattle.std.proofs.Common.{◌≤◌, ◌∷◌, ◌++◌, [], MatchOption, length, map, sym, ap, subst, ◌∙◌}
use Rattle.chr_sheet.proofs.Words.{⊤, past, SearchState, Trial, position, Row, misfit, trials_of, Reports, place_after}
use Rattle.chr_sheet.proofs.Rows.{part_few}
use Rattle.chr_sheet.proofs.reporting.pass_met.Goals as goal

pub go_past-requires-clause-few : goal.go_past-requires-clause-few
go_past-requires-clause-few g c = subst (λ (part : Trial). length part.placed ≤ 5) (sym c.part.ensures.part) (part_few c.args.row.now c.part.ensures.row)

pub go_past-requires-clause-last : goal.go_past-requires-clause-last
go_past-requires-clause-last g c = subst (λ met. MatchOption met ⊤ (λ last. last ≤ 4294967295)) c.in-Some.is c.meet-count.ensures.low

pub returns-in-Some-clause-reports : goal.returns-in-Some-clause-reports
returns-in-Some-clause-reports g c = λ s front stands next.
    let r : Row = c.args.row.now in
    let place = c.args.search.now.place in
    let to = ap (place_after place r.part) c.in-Some.is ∙ ap (λ (part : Trial). past (position part ++ c.in-Some.last ∷ [])) (sym c.part.ensures.part) ∙ ap (λ (z : SearchState). z.place) (sym c.go_past.ensures) in
    subst (Reports s place (map misfit (trials_of r)) c.meet-count.result.0) to (c.meet-count.ensures.reports s place front stands next)

pub returns-in_default-clause-reports : goal.returns-in_default-clause-reports
returns-in_default-clause-reports g c = λ s front stands next.
    let r : Row = c.args.row.now in
    let place = c.args.search.now.place in
    subst (λ met. Reports s place (map misfit (trials_of r)) c.meet-count.result.0 (place_after place r.part met)) c.in_default.is (c.meet-count.ensures.reports s place front stands next)
