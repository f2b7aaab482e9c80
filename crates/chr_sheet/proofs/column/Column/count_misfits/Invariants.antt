use Rattle.std.proofs.Common.{◌≡◌, ◌+◌, map, take}
use Rattle.chr_sheet.proofs.Words.{AllByRecursion, IsVerdict, column_trials, head_in}
use Rattle.chr_search.specs.declared.judged.Verdict.TheVariants as verdicts
use Rattle.chr_sheet.proofs.column.Column.count_misfits.Given as goal

-- the trials so far are misfits
abbrev pub invariant-loop-i : goal.invariant-loop-i
invariant-loop-i g l = record {
  more : map (head_in l.program) l.more ≡ l.self.more;
  misfits : AllByRecursion (λ t. IsVerdict t verdicts.Misfit) (take (l.i + 1) (column_trials l.self));
}
