use Rattle.std.proofs.Common.{◌≡◌, ◌≤◌, [], length, drop}
use Rattle.chr_picture.specs.Layouts.{pairs_of}
use Rattle.chr_picture.specs.Svg.{predicates_of}
use Rattle.chr_picture.proofs.drawing.predicates.Given as goal

abbrev pub invariant-loop-row : goal.invariant-loop-row
invariant-loop-row g l = record {
  rest : predicates_of (pairs_of l.preds.items) (drop l.row-index l.rows) ≡ predicates_of [] l.rows;
  few : length l.preds.items ≤ l.row-index;
}
