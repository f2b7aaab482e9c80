use Rattle.std.proofs.Common.{◌∙◌, [], sym, ap}
use Rattle.chr_sheet.proofs.Words.{Column, column_trials, kept_before}
use Rattle.chr_sheet.proofs.Rows.{judged_row}
use Rattle.chr_sheet.proofs.column.Column.split_column.Goals as goal

pub returns-in-None : goal.returns-in-None
returns-in-None g c =
    let k : Column = c.args.self in
    (judged_row (column_trials k) [] c.args.index (ap (kept_before column_trials) (sym c.in-None.is) ∙ c.in_ok-before.ensures.0), c.in_ok-before.ensures.1)

pub returns-in-Some : goal.returns-in-Some
returns-in-Some g c =
    let k : Column = c.args.self in
    (judged_row (column_trials k) (column_trials c.in-Some.before) c.args.index (ap (kept_before column_trials) (sym c.in-Some.is) ∙ c.in_ok-before.ensures.0), c.in_ok-before.ensures.1)
