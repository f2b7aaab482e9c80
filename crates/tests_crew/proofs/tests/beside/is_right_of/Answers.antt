use Rattle.chr_crew.proofs.Crossing.{basis, Shared-sync}
use Rattle.tests_crew.proofs.tests.beside.is_right_of.Goals as goal

pub is_right_beside-requires-sync-G : goal.is_right_beside-requires-sync-G
is_right_beside-requires-sync-G g c κs within =
    let b = c.type_bounds in
    let s = b.send-A in
    let y = b.sync-A in
    let f = b.frees-A-Allocator in
    let r = b.sync-R in
    search (basis, Shared-sync) fits 5000 depth 40
