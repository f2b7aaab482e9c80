use Rattle.std.proofs.Common.{◌+◌, length, length-append, take, refl, sym, ap, subst, ◌∙◌, arith}
use Rattle.chr_sheet.proofs.Words.{AreRight, Judgement, IsVerdict, Space, older, judged_at, judged_in, listed, Reports, done}
use Rattle.chr_sheet.proofs.Keeping.{all_here, judged_front, judged_step}
use Rattle.chr_sheet.proofs.Turns.{reports_both, reports_few}
use Rattle.chr_sheet.proofs.reporting.report.Goals as goal

pub loop-some-init : goal.loop-some-init
loop-some-init g c = record { all = c.others-some-items.ensures.others; label = refl; reports = done c.args.search.now.place }

pub pass_some-count-requires : goal.pass_some-count-requires
pass_some-count-requires g c =
    let right = all_here (λ (j : Judgement). IsVerdict j.trial j.verdict) c.others-some-items.result.now c.loop-some.some-index c.some-item.result c.loop-some-test.true c.some-item.is (subst AreRight (sym c.loop-some.invariant.all) c.others-some-items.ensures.right) in
    (omega arith, (c.requires, right))

pub loop-some-preserved : goal.loop-some-preserved
loop-some-preserved g c =
    let s : Space = older c.args.program.now c.args.plans.now c.args.store.now.entries c.args.search.now.label in
    let xs = c.others-some-items.result.now in
    let before = judged_in (take c.loop-some.some-index xs) in
    let mid = c.loop-some.search.place in
    let after = c.pass_some-count.new.search.place in
    let here = judged_at c.some-item.result in
    let step = judged_step xs c.loop-some.some-index c.some-item.result c.loop-some-test.true c.some-item.is in
    let more = subst (λ a. Reports (older c.args.program.now c.args.plans.now c.args.store.now.entries a) mid here c.pass_some-count.result after) c.loop-some.invariant.label c.pass_some-count.ensures.reports in
    record {
      all = c.loop-some.invariant.all;
      label = c.pass_some-count.ensures.label ∙ c.loop-some.invariant.label;
      reports = subst (λ js. Reports s c.args.search.now.place js (c.loop-some.count + c.pass_some-count.result) after) (sym step) (reports_both s c.args.search.now.place mid after before here c.loop-some.count c.pass_some-count.result c.loop-some.invariant.reports more);
    }

pub overflow_add-count : goal.overflow_add-count
overflow_add-count g c =
    let xs = c.others-some-items.result.now in
    let reported = reports_few _ _ _ _ _ c.loop-some.invariant.reports in
    let more = reports_few _ _ _ (judged_at c.some-item.result) c.pass_some-count.result c.pass_some-count.ensures.reports in
    let step = ap length (judged_step xs c.loop-some.some-index c.some-item.result c.loop-some-test.true c.some-item.is) ∙ length-append (judged_in (take c.loop-some.some-index xs)) (judged_at c.some-item.result) in
    omega (arith, reported, more, step, judged_front xs (c.loop-some.some-index + 1), ap length c.loop-some.invariant.all, c.others-some-items.ensures.few, length-append c.args.judgements.now.others (listed c.args.judgements.now.whole))
