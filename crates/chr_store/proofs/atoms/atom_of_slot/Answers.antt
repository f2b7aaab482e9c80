use Rattle.std.proofs.Common.{sym}
use Rattle.chr_store.proofs.Table.{looked_at}
use Rattle.chr_store.proofs.atoms.atom_of_slot.Goals as goal

pub returns : goal.returns
returns g c = sym (looked_at c.args.held.now c.args.slot c.get.result c.get.ensures.lookup)
