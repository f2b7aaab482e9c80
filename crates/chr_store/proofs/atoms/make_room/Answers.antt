use Rattle.chr_store.specs.Table.{held_in}
use Rattle.chr_store.proofs.Table.{counts_begun}
use Rattle.chr_store.proofs.atoms.make_room.Goals as goal

pub returns-in_ok-push-clause-counted : goal.returns-in_ok-push-clause-counted
returns-in_ok-push-clause-counted g c held h = rw c.in_ok-push.ensures.items (counts_begun (held_in held c.args.slots.now.items) c.args.counts.now.items h)
