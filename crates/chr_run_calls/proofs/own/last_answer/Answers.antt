use Rattle.std.proofs.Common.{arith}
use Rattle.chr_run_calls.proofs.Said.{answer_found, answer_passed, no_answer}
use Rattle.chr_run_calls.proofs.own.last_answer.Goals as goal

pub returns-then-tells : goal.returns-then-tells
returns-then-tells g c =
    let at = c.loop-left.invariant in
    let some = c.loop-left-test.true in
    answer_found c.args.batches c.args.seat c.args.ticket c.args.calls.now c.args.answers.now c.loop-left.left _ c.index-calls-left.result c.index-answers-left.result c.index-answers-left-then-tells.result c.tells.result
    (omega (arith, some)) (omega (arith, some, at.within)) c.requires c.index-calls-left.is c.index-answers-left.is c.index-answers-left-then-tells.is c.tells.ensures c.if-tells.true at.rest

pub loop-left-preserved : goal.loop-left-preserved
loop-left-preserved g c =
    let at = c.loop-left.invariant in
    let some = c.loop-left-test.true in
    record {
      within = omega (arith, some, at.within);
      rest = answer_passed c.args.batches c.args.seat c.args.ticket c.args.calls.now c.args.answers.now c.loop-left.left _ c.index-calls-left.result c.index-answers-left.result c.tells.result
          (omega (arith, some)) (omega (arith, some, at.within)) c.requires c.index-calls-left.is c.index-answers-left.is c.tells.ensures c.if-tells.false at.rest;
    }

pub returns : goal.returns
returns g c = no_answer c.args.batches c.args.seat c.args.ticket c.args.calls.now c.args.answers.now c.loop-left.left (omega (arith, c.loop-left-test.false)) c.loop-left.invariant.rest
