use Rattle.chr_crew.proofs.Crossing.{basis, Shared-sync}
use Rattle.tests_crew.proofs.tests.beside.work_all.Goals as goal

pub for_each_mut-requires-sync-F : goal.for_each_mut-requires-sync-F
for_each_mut-requires-sync-F g c κs within =
    let b = c.type_bounds in
    let s = b.send-A in
    let y = b.sync-A in
    let f = b.frees-A-Allocator in
    let r = b.sync-R in
    let h = b.sync-G in
    search (basis, Shared-sync) fits 5000 depth 40
