use Rattle.chr_crew.proofs.Crossing.{basis, Shared-sync}
use Rattle.tests_desks.proofs.tests.reading.gets_beside.Goals as goal

pub join-between-requires-send-F : goal.join-between-requires-send-F
join-between-requires-send-F g c κs within =
    let b = c.type_bounds in
    let s = b.send-A in
    let y = b.sync-A in
    let f = b.frees-A-Allocator in
    let n = b.sync-N in
    let r = b.sync-R in
    search (basis, Shared-sync) fits 5000 depth 40
