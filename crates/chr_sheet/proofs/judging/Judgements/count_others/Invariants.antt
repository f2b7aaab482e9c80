use Rattle.std.proofs.Common.{◌≡◌, length, take}
use Rattle.chr_sheet.specs.Kept.{judged_in}
use Rattle.chr_sheet.proofs.judging.Judgements.count_others.Given as goal

abbrev pub invariant-loop-some : goal.invariant-loop-some
invariant-loop-some g l = record {
  all : judged_in l.some-items ≡ l.self.others;
  count : l.count ≡ length (judged_in (take l.some-index l.some-items));
}
