use Rattle.std.proofs.Common.{◌≡◌, ◌+◌, ◌≤◌, ◌-◌, length, map}
use Rattle.chr_rule.specs.Occurrences.{AreHeadsFrom}
use Rattle.chr_sheet.specs.Columns.{head_in, AreNextHeads}
use Rattle.chr_sheet.proofs.NextBeside.{last_head}
use Rattle.chr_sheet.proofs.reading.next_heads.Given as goal

abbrev pub invariant-heads : goal.invariant-heads
invariant-heads g l =
    let found = map (head_in l.program) l.heads.items in
    let last = last_head l.fn.after.0 l.fn.after.1 found in
    record {
      few : length l.heads.items ≤ l.most;
      next : AreNextHeads l.program l.fn.pred l.fn.after.0 l.fn.after.1 found;
      pred : l.ahead.pred ≡ l.fn.pred;
      ahead : AreHeadsFrom l.program l.ahead last.0 (last.1 + 1);
    }

abbrev pub decreases-heads : goal.decreases-heads
decreases-heads g l = l.most - length l.heads.items
