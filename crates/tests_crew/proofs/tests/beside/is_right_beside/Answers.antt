use Rattle.chr_crew.proofs.Crossing.{basis, Shared-sync}
use Rattle.tests_crew.proofs.tests.beside.Worker.TheSendSync as worker
use Rattle.tests_crew.proofs.tests.beside.is_right_beside.Goals as goal

pub join-right-requires-send-F : goal.join-right-requires-send-F
join-right-requires-send-F g c κs within =
    let b = c.type_bounds in
    let s = b.send-A in
    let y = b.sync-A in
    let f = b.frees-A-Allocator in
    let h = b.sync-G in
    let r = b.sync-R in
    search (basis, Shared-sync, worker.the_send) fits 5000 depth 40
