use Rattle.std.proofs.Common.{◌≡◌, List, ◌++◌}
use Rattle.chr_sheet.proofs.Words.{arc_value, older, Trial, trials_in, AreNext}
use Rattle.chr_sheet.proofs.reading.read.Given as goal

abbrev pub invariant-loop-left : goal.invariant-loop-left
invariant-loop-left g l = record {
  label : l.ahead.label ≡ l.search.label;
  next : (more : List Trial) → AreNext (older (arc_value l.program) l.plans l.store.entries l.search.label) l.left l.ahead.place more → AreNext (older (arc_value l.program) l.plans l.store.entries l.search.label) l.fn.most l.search.place (trials_in l.sheet.items ++ more);
}

abbrev pub decreases-loop-left : goal.decreases-loop-left
decreases-loop-left g l = l.left
