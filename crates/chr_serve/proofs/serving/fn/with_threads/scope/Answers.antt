use Rattle.chr_crew.proofs.Crossing.{basis, Shared-sync}
use Rattle.chr_serve.proofs.connections.Connections.TheSendSync as connections
use Rattle.chr_serve.proofs.members.Member.TheSendSync as member
use Rattle.chr_serve.proofs.serving.fn.with_threads.scope.Goals as goal

pub spawn-requires-send-F : goal.spawn-requires-send-F
spawn-requires-send-F g c κs within =
    let q = c.requires in
    let r = q.0 in
    let s = q.1 in
    let y = q.2 in
    let f = q.3 in
    search (basis, Shared-sync, connections.the_sync, member.the_send) fits 5000 depth 40
