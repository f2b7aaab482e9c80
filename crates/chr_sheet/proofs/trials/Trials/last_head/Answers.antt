use Rattle.std.proofs.Common.{sym, ap, ◌∙◌}
use Rattle.chr_sheet.specs.Kept.{trials_at}
use Rattle.chr_sheet.proofs.NextBeside.{branch_head, row_head, last_low}
use Rattle.chr_sheet.proofs.trials.Trials.last_head.Goals as goal

pub returns-in-Row-clause-is : goal.returns-in-Row-clause-is
returns-in-Row-clause-is g c = λ t more e.
    let r = c.in-Row.row in
    let of = row_head r.part r.lasts t more (sym (ap trials_at c.in-Row.is) ∙ e) in
    let is = c.head_of_trial-in-Row.ensures.is in
    (is.0 ∙ ap (λ u. u.number) c.part.ensures.part ∙ of.0, is.1 ∙ ap (λ u. u.head) c.part.ensures.part ∙ of.1)

pub returns-in-Branch-clause-is : goal.returns-in-Branch-clause-is
returns-in-Branch-clause-is g c = λ t more e.
    let r = c.in-Branch.row in
    let of = branch_head r.part r.lasts t more (sym (ap trials_at c.in-Branch.is) ∙ e) in
    let is = c.head_of_trial-in-Branch.ensures.is in
    (is.0 ∙ ap (λ u. u.number) c.part-in-Branch.ensures.part ∙ of.0, is.1 ∙ ap (λ u. u.head) c.part-in-Branch.ensures.part ∙ of.1)

pub returns-in-Column-clause-low : goal.returns-in-Column-clause-low
returns-in-Column-clause-low g c = last_low c.in-Column.column c.last.ensures.column c.last.result.0 c.last.result.1 c.last.ensures.number c.last.ensures.head
