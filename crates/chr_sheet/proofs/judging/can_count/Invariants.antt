use Rattle.std.proofs.Common.{◌≡◌, ◌<◌, length, take}
use Rattle.chr_sheet.specs.Kept.{trials_in}
use Rattle.chr_sheet.proofs.judging.can_count.Given as goal

abbrev pub invariant-loop-trials : goal.invariant-loop-trials
invariant-loop-trials g l = record {
  count : l.count ≡ length (trials_in (take l.trials-index l.sheet));
  fits : l.count < 18446744073709551616;
}
