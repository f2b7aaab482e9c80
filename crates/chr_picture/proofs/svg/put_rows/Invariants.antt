use Rattle.std.proofs.Common.{◌≡◌, ◌++◌, drop}
use Rattle.chr_picture.specs.Layouts.{pairs_of}
use Rattle.chr_picture.specs.Svg.{rows_text}
use Rattle.chr_picture.proofs.svg.put_rows.Given as goal

abbrev pub invariant-loop-place : goal.invariant-loop-place
invariant-loop-place g l = l.out.items ++ rows_text l.names l.layout (pairs_of l.preds) l.firings l.place (drop l.place l.rows) ≡ l.fn.out.items ++ rows_text l.names l.layout (pairs_of l.preds) l.firings 0 l.rows
