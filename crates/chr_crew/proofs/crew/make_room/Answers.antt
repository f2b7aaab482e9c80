use Rattle.std.proofs.Common.{◌≡◌, length, subst, arith}
use Rattle.std.specs.List.{flat_map}
use Rattle.chr_pool.specs.Hands.{hand_pushed}
use Rattle.chr_pool.specs.Inlets.{inlet_pushed}
use Rattle.chr_crew.specs.Pools.{HaveRoom}
use Rattle.chr_crew.proofs.Dealing.{append_none}
use Rattle.chr_crew.proofs.crew.make_room.Goals as goal

pub returns-clause-empty : goal.returns-clause-empty
returns-clause-empty g c = append_none (flat_map hand_pushed c.in_ok-hands.hands.items) (flat_map inlet_pushed c.in_ok-hands.inlets.items) c.in_ok-hands.ensures.empty

pub returns-clause-room : goal.returns-clause-room
returns-clause-room g c =
    let count : c.len.result ≡ length c.in_ok-tickets.tickets.items = omega arith in
    subst (λ n. HaveRoom n c.in_ok-hands.hands.items) count c.in_ok-hands.ensures.room
