use Rattle.std.proofs.Common.{arith}
use Rattle.chr_pool.specs.Pools.{pool_pushed, pool_taken}
use Rattle.chr_crew.proofs.Answering.{ok_then, ok_both}
use Rattle.chr_crew.proofs.Dealing.{room_made, append_none}
use Rattle.chr_crew.proofs.crew.make_pool.Goals as goal

pub returns-clause-room : goal.returns-clause-room
returns-clause-room c =
    ok_both _ _ _ c.make.result c.make.ensures.sizes c.make.ensures.capacity (λ r sizes all.
    room_made c.args.tickets c.args.n c.max.result r.0.items (omega arith) sizes.0 (omega (arith, c.max.ensures)) all)

pub returns-clause-empty : goal.returns-clause-empty
returns-clause-empty c = ok_then _ _ c.make.result c.make.ensures.empty (λ r none. (append_none (pool_pushed r.0.items r.1.items) (pool_taken r.0.items) none).0)
