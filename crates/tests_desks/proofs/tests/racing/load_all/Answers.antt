use Rattle.chr_crew.proofs.Crossing.{basis, Shared-sync}
use Rattle.chr_crew.proofs.rack.Rack.TheSendSync as rack
use Rattle.tests_desks.proofs.tests.racing.load_all.Goals as goal

pub map_indices-requires-sync-F : goal.map_indices-requires-sync-F
map_indices-requires-sync-F g c κs within =
    let b = c.type_bounds in
    let r = b.sync-R in
    search (basis, Shared-sync, rack.the_sync) fits 5000 depth 40
