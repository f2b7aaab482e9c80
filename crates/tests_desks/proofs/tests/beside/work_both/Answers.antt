use Rattle.chr_crew.proofs.Crossing.{basis, Shared-sync}
use Rattle.tests_desks.proofs.tests.hall.Worker.TheSendSync as worker
use Rattle.tests_desks.proofs.tests.beside.work_both.Goals as goal

pub join-requires-send-F : goal.join-requires-send-F
join-requires-send-F g c κs within =
    let b = c.type_bounds in
    let r = b.sync-R in
    search (basis, Shared-sync, worker.the_send) fits 5000 depth 40
