use Rattle.std.proofs.Common.{◌≡◌, ◌≤◌, drop}
use Rattle.chr_picture.specs.Layouts.{most_room}
use Rattle.chr_picture.proofs.drawing.most_room.Given as goal

abbrev pub invariant-loop-row : goal.invariant-loop-row
invariant-loop-row g l = record {
  room : most_room l.names l.step l.most (drop l.row-index l.rows) ≡ most_room l.names l.step 0 l.rows;
  few : l.most ≤ 4480;
}
