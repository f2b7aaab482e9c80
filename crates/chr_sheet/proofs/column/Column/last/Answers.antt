use Rattle.std.proofs.Common.{ap}
use Rattle.chr_sheet.proofs.Words.{arc_value, Trial, head_in}
use Rattle.chr_sheet.proofs.Rows.{last_is}
use Rattle.chr_sheet.proofs.column.Column.last.Goals as goal

pub returns-in-Some-clause-number : goal.returns-in-Some-clause-number
returns-in-Some-clause-number g c = ap (λ (u : Trial). u.number) (last_is (head_in (arc_value c.self.inside.program)) c.self.inside.first c.self.inside.more.items c.deref.result.now c.in-Some.last.now c.args.self.now c.self.view_is c.deref.ensures.value c.in-Some.ensures.value)

pub returns-in-Some-clause-head : goal.returns-in-Some-clause-head
returns-in-Some-clause-head g c = ap (λ (u : Trial). u.head) (last_is (head_in (arc_value c.self.inside.program)) c.self.inside.first c.self.inside.more.items c.deref.result.now c.in-Some.last.now c.args.self.now c.self.view_is c.deref.ensures.value c.in-Some.ensures.value)
