use Rattle.std.proofs.Common.{refl, sym, ap, subst}
use Rattle.chr_calls.specs.Calls.{Drops}
use Rattle.chr_solo.specs.Solo.{SoloCall, Nothing, drops}
use Rattle.chr_solo.specs.SoloCode.{known_of}
use Rattle.chr_solo.proofs.solo.go_on.Goals as goal

pub answer-requires : goal.answer-requires
answer-requires g c = c.requires.aware c.in-Judged.judged (ap known_of c.in-Judged.is)

pub returns-in_ok-answer-in-Judged-clause-ok : goal.returns-in_ok-answer-in-Judged-clause-ok
returns-in_ok-answer-in-Judged-clause-ok g c =
    subst (λ k. SoloCall c.args.seat c.args.ticket c.args.book.now k c.answer.new.book Nothing) (sym (ap known_of c.in-Judged.is)) c.in_ok-answer-in-Judged.ensures.ok

pub returns-in-Ok-clause-ok : goal.returns-in-Ok-clause-ok
returns-in-Ok-clause-ok g c =
    drops c.in-Ok.field-0 (ap known_of c.in-NoneLeft.is) (subst (λ r. Drops c.args.book.now c.args.seat c.args.ticket r c.drop_goal.new.self) c.in-Ok.is c.drop_goal.ensures) refl
