use Rattle.std.proofs.Common.{length, length-append, ◌∙◌, ap, arith}
use Rattle.chr_sheet.proofs.Words.{take_all, judged_in, listed}
use Rattle.chr_sheet.proofs.Keeping.{judged_count, judged_counted, judged_within}
use Rattle.chr_sheet.proofs.judging.Judgements.count_others.Goals as goal

pub overflow_add-count : goal.overflow_add-count
overflow_add-count g c =
    let within = judged_within c.others-some-items.result.now c.loop-some.some-index c.some-item.result c.loop-some-test.true c.some-item.is in
    omega (arith, within, judged_count c.some-item.result, ap length c.loop-some.invariant.all, c.others-some-items.ensures.few, length-append c.args.self.now.others (listed c.args.self.now.whole))

pub loop-some-preserved : goal.loop-some-preserved
loop-some-preserved g c =
    let more = judged_counted c.others-some-items.result.now c.loop-some.some-index c.some-item.result c.loop-some-test.true c.some-item.is in
    record { all = c.loop-some.invariant.all; count = omega (arith, judged_count c.some-item.result) }

pub returns : goal.returns
returns g c =
    c.loop-some.invariant.count ∙ ap (λ xs. length (judged_in xs)) (take_all c.loop-some.some-index c.others-some-items.result.now c.loop-some-test.false) ∙ ap length c.loop-some.invariant.all
