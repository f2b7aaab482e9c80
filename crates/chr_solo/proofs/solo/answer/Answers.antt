use Rattle.std.proofs.Common.{refl, subst}
use Rattle.chr_calls.specs.Calls.{Reports, FiresOrMisses}
use Rattle.chr_solo.specs.Solo.{fires, reports}
use Rattle.chr_solo.proofs.solo.answer.Goals as goal

pub returns-then-ne-clause-ok : goal.returns-then-ne-clause-ok
returns-then-ne-clause-ok g c =
    reports c.args.judged.now c.in-Ok.field-0 refl
    (subst (λ r. Reports c.args.book.now c.args.seat c.args.ticket c.args.judged.now r c.report.new.self) c.in-Ok.is c.report.ensures) refl

pub returns-in-Ok-fire-clause-ok : goal.returns-in-Ok-fire-clause-ok
returns-in-Ok-fire-clause-ok g c =
    fires c.args.judged.now c.in-Ok-fire.field-0 refl
    (subst (λ r. FiresOrMisses c.args.book.now c.args.seat c.args.ticket c.args.judged.now r c.fire.new.self) c.in-Ok-fire.is c.fire.ensures) refl
