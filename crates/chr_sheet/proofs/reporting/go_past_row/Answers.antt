use Rattle.std.proofs.Common.{◌≤◌, ◌++◌, ◌∷◌, [], length, sym, ap, subst, ◌∙◌}
use Rattle.chr_sheet.proofs.Words.{placed_as, past, SearchState, Trial, position, Row}
use Rattle.chr_sheet.proofs.Rows.{part_few}
use Rattle.chr_sheet.proofs.Turns.{after_row, last_low}
use Rattle.chr_sheet.proofs.reporting.go_past_row.Goals as goal

pub go_past-requires-clause-few : goal.go_past-requires-clause-few
go_past-requires-clause-few g c = subst (λ (part : Trial). length part.placed ≤ 5) (sym c.part.ensures.part) (part_few c.args.row.now c.part.ensures.row)

pub go_past-requires-clause-last : goal.go_past-requires-clause-last
go_past-requires-clause-last g c = last_low placed_as c.args.row.now c.lasts.result.now c.in-Some.field-0-1.now c.in-Some.last.now c.part.ensures.row c.lasts.ensures.lasts c.in-Some.ensures.cases.0

pub returns-clause-place : goal.returns-clause-place
returns-clause-place g c place =
    let r : Row = c.args.row.now in
    ap (λ (z : SearchState). z.place) c.go_past.ensures ∙ ap (λ (part : Trial). past (position part ++ c.in-Some.last.now.label ∷ [])) c.part.ensures.part
    ∙ sym (after_row placed_as place r c.lasts.result.now c.in-Some.field-0-1.now c.in-Some.last.now c.lasts.ensures.lasts c.in-Some.ensures.cases.0)
