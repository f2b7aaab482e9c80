use Rattle.std.proofs.Common.{◌≡◌, suc, ◌+◌, IfSome, arith, subst}
use Rattle.chr_sheet.proofs.Words.{column_trials, IsSettledAt, branch_trials, trials_of}
use Rattle.chr_sheet.proofs.Keeping.{right_up_to, right_behind, next_behind}
use Rattle.chr_sheet.proofs.judging.judge_some.Goals as goal

pub returns-in-Row-clause-right : goal.returns-in-Row-clause-right
returns-in-Row-clause-right g c = right_up_to (trials_of c.in-Row.row) c.count_misfits.result.0 c.count_misfits.ensures.misfits.misfits

pub returns-in-Branch-clause-right : goal.returns-in-Branch-clause-right
returns-in-Branch-clause-right g c = right_behind c.in-Branch.row c.count_misfits-count.result.0 c.lasts-count.ensures.row c.count_misfits-count.ensures.misfits.misfits

pub returns-in-Branch-clause-next : goal.returns-in-Branch-clause-next
returns-in-Branch-clause-next g c = next_behind c.in-Branch.row c.count_misfits-count.result.0 c.count_misfits-count.ensures.misfits.next

pub returns-in-Column-clause-right : goal.returns-in-Column-clause-right
returns-in-Column-clause-right g c = right_up_to (column_trials c.in-Column.column) c.count_misfits-in-Column.result.0 c.count_misfits-in-Column.ensures.misfits.misfits

pub returns-in-Row-clause-settled : goal.returns-in-Row-clause-settled
returns-in-Row-clause-settled g c = c.count_misfits.ensures.settled

pub returns-in-Branch-clause-settled : goal.returns-in-Branch-clause-settled
returns-in-Branch-clause-settled g c =
    subst (λ k. IfSome c.count_misfits-count.result.1 (IsSettledAt (branch_trials c.in-Branch.row) k)) (let e : suc c.count_misfits-count.result.0 ≡ c.count_misfits-count.result.0 + 1 = omega arith in e) c.count_misfits-count.ensures.settled

pub returns-in-Column-clause-settled : goal.returns-in-Column-clause-settled
returns-in-Column-clause-settled g c = c.count_misfits-in-Column.ensures.settled
