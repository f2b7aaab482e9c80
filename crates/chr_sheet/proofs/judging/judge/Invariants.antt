use Rattle.std.proofs.Common.{◌≡◌, length, take, ◌-◌}
use Rattle.chr_sheet.proofs.Words.{trials_in, judged_in, AreRight}
use Rattle.chr_sheet.proofs.judging.judge.Given as goal

-- the verdicts on those so far are right
abbrev pub invariant-loop-place : goal.invariant-loop-place
invariant-loop-place g l = record {
  same : trials_in l.others.items ≡ trials_in l.fn.sheet.items;
  right : AreRight (judged_in (take l.place l.others.items));
}

abbrev pub decreases-loop-place : goal.decreases-loop-place
decreases-loop-place g l = length l.others.items - l.place
