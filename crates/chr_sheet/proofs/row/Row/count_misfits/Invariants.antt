use Rattle.std.proofs.Common.{◌≡◌, map, take}
use Rattle.chr_sheet.proofs.Words.{AllByRecursion, IsVerdict, IsFitted, placed_as, trials_of}
use Rattle.chr_search.specs.declared.judged.Verdict.TheVariants as verdicts
use Rattle.chr_sheet.proofs.row.Row.count_misfits.Given as goal

-- the trials so far are misfits
abbrev pub invariant-loop-i : goal.invariant-loop-i
invariant-loop-i g l = record {
  fitted : IsFitted l.self.part l.fitted l.binding;
  lasts : map placed_as l.last-items ≡ l.self.lasts;
  misfits : AllByRecursion (λ t. IsVerdict t verdicts.Misfit) (take l.i (trials_of l.self));
}
