use Rattle.std.proofs.Common.{◌≡◌, length, take, ap, ◌∙◌, arith}
use Rattle.chr_sheet.proofs.Words.{take_all, trials_in}
use Rattle.chr_sheet.proofs.Keeping.{trials_counted}
use Rattle.chr_sheet.proofs.judging.can_count.Goals as goal

pub loop-trials-preserved : goal.loop-trials-preserved
loop-trials-preserved g c = record {
  count = c.in-Some.ensures.1 ∙ trials_counted c.args.sheet.now c.loop-trials.trials-index c.trials-item.result c.loop-trials.count c.len.result c.loop-trials-test.true c.trials-item.is c.loop-trials.invariant.count c.len.ensures.count;
  fits = omega (arith, c.in-Some.ensures.0, c.in-Some.ensures.1);
}

pub returns : goal.returns
returns g c _ =
    let all : length (trials_in (take c.loop-trials.trials-index c.args.sheet.now)) ≡ length (trials_in c.args.sheet.now) = ap (λ xs. length (trials_in xs)) (take_all c.loop-trials.trials-index c.args.sheet.now c.loop-trials-test.false) in
    omega arith
