use Rattle.std.proofs.Common.{length, ap, arith}
use Rattle.chr_index.proofs.Slots.{live_few}
use Rattle.chr_index.proofs.bucket.Run.most.Goals as goal

pub returns : goal.returns
returns c = omega (arith, live_few c.self.inside.slots.now, ap length c.self.view_is)
