use Rattle.std.proofs.Common.{◌≡◌, ◌+◌, ◌<◌, ◌≤◌, take, slice_set, ◌∙◌, length, sym, ap, subst, arith}
use Rattle.std.proofs.lemmas.List.{take_more_set}
use Rattle.chr_sheet.proofs.Words.{append-nil, take_all, trials_in, judged_in, AreRight, AreJudgedInOrder}
use Rattle.chr_sheet.proofs.Keeping.{put_same, put_right, sheet_of_others, all_in_order, IsCutAtWhole, whole_in_order, sheet_with_whole}
use Rattle.chr_sheet.proofs.judging.judge.Goals as goal
use Rattle.chr_sheet.proofs.judging.judge.Goals.{After-len-in-loop-place, In_ok-take_whole}

-- the trial that is whole is taken out of its place
cut : (g : _) (c : In_ok-take_whole g) → IsCutAtWhole c.args.sheet.items c.loop-place.others.items c.pop.new.self.items c.loop-place.place c.judge_some-count.result.0 c.in-Some.trials c.judge_some-count.new.trials (judged_in c.take_whole.new.others.items) c.in_ok-take_whole.field-0
cut g c =
    let xs = c.loop-place.others.items in
    let i = c.loop-place.place in
    let within : i < length xs = omega (arith, c.loop-place-test.true, c.len.ensures, c.loop-place.others.ok.0) in
    record {
      within = within;
      count = subst (λ xs. length (trials_in xs) < 18446744073709551616) c.deref.ensures.value (c.can_count.ensures c.if-not-can_count.false);
      same = put_same xs i c.index_mut-some.result.now c.judge_some-count.new.trials within c.index_mut-some.ensures.value c.judge_some-count.ensures.same ∙ c.loop-place.invariant.same;
      right = c.loop-place.invariant.right;
      here = c.judge_some-count.ensures.right;
      cut = sym c.in-Some.ensures.items ∙ c.truncate.ensures.items ∙ take_more_set xs i c.judge_some-count.new.trials within;
      others = c.in_ok-take_whole.ensures.others;
      trial = c.in_ok-take_whole.ensures.trial;
      verdict = c.in_ok-take_whole.ensures.verdict;
    }

pub invariant_of-result : goal.invariant_of-result
invariant_of-result g c = sheet_with_whole (cut g (goal.at.invariant_of-result g c).In_ok-take_whole)

pub returns-then-count-len : goal.returns-then-count-len
returns-then-count-len g c = whole_in_order (cut g (goal.at.returns-then-count-len g c).In_ok-take_whole)

-- one place is judged, and none there is whole
judged : (g : _) (c : After-len-in-loop-place g) → c.len-in-loop-place.result ≤ c.judge_some-count.result.0 → let now = slice_set c.loop-place.others.items c.loop-place.place c.judge_some-count.new.trials in (trials_in now ≡ trials_in c.args.sheet.items) × AreRight (judged_in (take (c.loop-place.place + 1) now))
judged g c all =
    let xs = c.loop-place.others.items in
    let i = c.loop-place.place in
    let within : i < length xs = omega (arith, c.loop-place-test.true, c.len.ensures, c.loop-place.others.ok.0) in (
      put_same xs i c.index_mut-some.result.now c.judge_some-count.new.trials within c.index_mut-some.ensures.value c.judge_some-count.ensures.same ∙ c.loop-place.invariant.same,
      put_right xs i c.judge_some-count.result.0 c.judge_some-count.new.trials within (omega (arith, c.len-in-loop-place.ensures.count)) c.loop-place.invariant.right c.judge_some-count.ensures.right,
    )

pub loop-place-preserved : goal.loop-place-preserved
loop-place-preserved g c = let j = judged g (goal.at.loop-place-preserved g c).After-len-in-loop-place c.if-count-len.false in record { same = j.0; right = j.1 }

pub loop-place-preserved-else-count-len : goal.loop-place-preserved-else-count-len
loop-place-preserved-else-count-len g c = let j = judged g (goal.at.loop-place-preserved-else-count-len g c).After-len-in-loop-place c.if-count-len.false in record { same = j.0; right = j.1 }

pub invariant_of-result-2 : goal.invariant_of-result-2
invariant_of-result-2 g c =
    let count = subst (λ xs. length (trials_in xs) < 18446744073709551616) c.deref.ensures.value (c.can_count.ensures c.if-not-can_count.false) in
    sheet_of_others c.loop-place.others.items (omega (arith, ap length c.loop-place.invariant.same)) (subst (λ xs. AreRight (judged_in xs)) (take_all c.loop-place.place c.loop-place.others.items (omega (arith, c.loop-place-test.false, c.len.ensures, c.loop-place.others.ok.0))) c.loop-place.invariant.right)

pub returns : goal.returns
returns g c =
    let xs = c.loop-place.others.items in
    subst (AreJudgedInOrder (trials_in c.args.sheet.items)) (sym (append-nil (judged_in xs))) (subst (λ ts. AreJudgedInOrder ts (judged_in xs)) c.loop-place.invariant.same (all_in_order xs))
