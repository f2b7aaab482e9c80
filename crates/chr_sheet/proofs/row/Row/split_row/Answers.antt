use Rattle.std.proofs.Common.{[], ap, ◌∙◌, arith}
use Rattle.chr_sheet.proofs.Words.{placed_as, Row, trials_of}
use Rattle.chr_sheet.proofs.Rows.{judged_row, none_before, told_some}
use Rattle.chr_sheet.proofs.row.Row.split_row.Goals as goal

pub returns-then-is_empty : goal.returns-then-is_empty
returns-then-is_empty g c =
    let r : Row = c.args.self in
    let k = c.in_ok-part.ensures in
    (judged_row (trials_of r) [] c.args.index (none_before placed_as c.in_ok-part.part c.in_ok-part.before.items c.in_ok-part.before.len c.is_empty.result c.is_empty.ensures c.if-is_empty.true (omega (arith, c.in_ok-part.before.ok.0)) ∙ k.split.0), k.split.1)

pub new-requires : goal.new-requires
new-requires g c = c.in_ok-part.ensures.row (told_some placed_as c.in_ok-part.before.items c.in_ok-part.before.len c.is_empty.result c.is_empty.ensures c.if-is_empty.false (omega (arith, c.in_ok-part.before.ok.0)))

pub returns : goal.returns
returns g c =
    let r : Row = c.args.self in
    let k = c.in_ok-part.ensures in
    (judged_row (trials_of r) _ c.args.index (ap trials_of c.new.ensures ∙ k.split.0), k.split.1)
