use Rattle.chr_crew.proofs.Crossing.{basis, Shared-sync}
use Rattle.chr_crew.proofs.rack.Rack.TheSendSync as rack
use Rattle.tests_desks.proofs.tests.beside.talk_over_memory.Goals as goal

pub find_over_memory-requires-sync-S : goal.find_over_memory-requires-sync-S
find_over_memory-requires-sync-S g c κs within =
    let b = c.type_bounds in
    let r = b.sync-R in
    search (basis, Shared-sync, rack.the_sync) fits 5000 depth 40
