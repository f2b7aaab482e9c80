use Rattle.std.proofs.Common.{ap, subst, sym}
use Rattle.chr_run_calls.specs.Lists.{Word}
use Rattle.chr_run_calls.specs.CallLists.{ActsByWord}
use Rattle.chr_run_calls.specs.Code.{word_of, answer_of, said_by}
use Rattle.chr_run_calls.proofs.Said.{by_given}
use Rattle.chr_run_calls.proofs.run.act_by_word.Goals as goal

pub returns-in-Given : goal.returns-in-Given
returns-in-Given g c = by_given _ _ _ _ _ _ _ c.in-Given.judged _ (ap word_of c.in-Given.is) c.verdict-right.ensures.right c.go_by.ensures

pub returns-in-Own : goal.returns-in-Own
returns-in-Own g c =
    subst (λ (w : Word). ActsByWord c.args.does c.args.book.now (said_by c.args.calls.now c.args.answers.now) c.args.seat c.args.ticket w (answer_of c.act_by_own.result) c.act_by_own.new.book)
    (sym (ap word_of c.in-Own.is)) c.act_by_own.ensures
