use Rattle.std.proofs.Common.{Ok, refl, ap, ◌∙◌, subst}
use Rattle.chr_calls.specs.Turns.{Next, Done, Gone, turn_of}
use Rattle.chr_calls.specs.Calls.{Turns}
use Rattle.chr_solo.specs.Solo.{asks}
use Rattle.chr_solo.proofs.solo.ask.Goals as goal

pub returns-in-Ok-Trial-clause-ok : goal.returns-in-Ok-Trial-clause-ok
returns-in-Ok-Trial-clause-ok g c =
    asks (Next c.in-Ok-Trial.trial) refl
    (subst (λ r. Turns c.args.book.now c.args.seat c.args.ticket (turn_of r) c.trial.new.self) (c.in-Ok-Trial.is ∙ ap Ok c.in-Ok-Trial.field-0-is) c.trial.ensures)
    (c.judge-judged.result, c.judge-judged.ensures, c.verdict-right.ensures.right, refl)

pub returns-in-Ok-Done-clause-ok : goal.returns-in-Ok-Done-clause-ok
returns-in-Ok-Done-clause-ok g c =
    asks Done refl (subst (λ r. Turns c.args.book.now c.args.seat c.args.ticket (turn_of r) c.trial.new.self) (c.in-Ok-Done.is ∙ ap Ok c.in-Ok-Done.field-0-is) c.trial.ensures) refl

pub returns-in-Ok-Gone-clause-ok : goal.returns-in-Ok-Gone-clause-ok
returns-in-Ok-Gone-clause-ok g c =
    asks Gone refl (subst (λ r. Turns c.args.book.now c.args.seat c.args.ticket (turn_of r) c.trial.new.self) (c.in-Ok-Gone.is ∙ ap Ok c.in-Ok-Gone.field-0-is) c.trial.ensures) refl
