use Rattle.chr_sheet.proofs.Words.{placed_as, space_in}
use Rattle.chr_sheet.proofs.NextBeside.{labels_read}
use Rattle.chr_sheet.proofs.Turns.{front_there}
use Rattle.chr_sheet.proofs.reporting.front_of.Goals as goal

pub returns : goal.returns
returns g c = front_there (space_in c.args.setting.now c.args.active) c.args.part.now _ _ _ _ c.number.ensures c.head.ensures (labels_read placed_as c.placed.result.now c.args.part.now c.placed.ensures.placed) c.of.ensures
