use Rattle.chr_picture.proofs.Texts.{room_more, room_within}
use Rattle.chr_picture.proofs.drawing.most_room.Goals as goal

pub loop-row-preserved : goal.loop-row-preserved
loop-row-preserved g c = record {
  room = room_more c.args.names.now c.args.step c.args.rows.now _ c.loop-row.most c.in_ok-room_of.field-0 c.max-most.result c.loop-row.row-index c.row-item.result c.loop-row-test.true c.row-item.is c.in_ok-room_of.ensures.room c.max-most.ensures c.loop-row.invariant.room;
  few = room_within c.loop-row.most c.in_ok-room_of.field-0 c.max-most.result 4480 c.in_ok-room_of.ensures.few c.loop-row.invariant.few c.max-most.ensures;
}
