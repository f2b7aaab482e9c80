use Rattle.std.proofs.Common.{sym, ap, subst, ◌∙◌, ◌≤◌}
use Rattle.chr_search.specs.Reach.{SearchState}
use Rattle.chr_sheet.proofs.NextBeside.{last_low, active_low}
use Rattle.chr_sheet.proofs.Turns.{after_column}
use Rattle.chr_sheet.proofs.reporting.go_past_column.Goals as goal

pub go_past_alone-requires-clause-number : goal.go_past_alone-requires-clause-number
go_past_alone-requires-clause-number g c = let l = c.last-number in (last_low c.args.column.now l.ensures.column l.result.0 l.result.1 l.ensures.number l.ensures.head).0

pub go_past_alone-requires-clause-head : goal.go_past_alone-requires-clause-head
go_past_alone-requires-clause-head g c = let l = c.last-number in (last_low c.args.column.now l.ensures.column l.result.0 l.result.1 l.ensures.number l.ensures.head).1

pub go_past_alone-requires-clause-label : goal.go_past_alone-requires-clause-label
go_past_alone-requires-clause-label g c = subst (λ l. l ≤ 4294967295) c.requires.1 (active_low c.requires.0 c.args.column.now.first c.requires.2 c.last-number.ensures.column.formed.0)

pub returns-clause-place : goal.returns-clause-place
returns-clause-place g c place =
    let l = c.last-number in
    ap (λ (z : SearchState). z.place) c.go_past_alone.ensures
    ∙ sym (after_column c.requires.0 place c.args.column.now l.result.0 l.result.1 c.args.search.now.label l.ensures.column.alone c.requires.2 c.requires.1 l.ensures.number l.ensures.head)
