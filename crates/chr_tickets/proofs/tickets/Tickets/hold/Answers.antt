use Rattle.std.proofs.Common.{refl, arith}
use Rattle.chr_calls.specs.Tickets.{held_by}
use Rattle.chr_tickets.proofs.Changes.{open_at, changed, still_queued, resting_open, resting_active}
use Rattle.chr_tickets.proofs.tickets.Tickets.hold.Goals as goal

pub open_at-found-requires : goal.open_at-found-requires
open_at-found-requires g c = open_at c.self.invariant c.self.view_is (resting_open c.args.self.now c.args.ticket c.requires)

pub invariant_of-self : goal.invariant_of-self
invariant_of-self g c = still_queued _ _ (held_by c.args.seat) _ c.self.invariant c.self.view_is (resting_open c.args.self.now c.args.ticket c.requires) c.open_at-found.ensures.value (λ there. c.hold.ensures (resting_active c.args.self.now c.args.ticket _ there c.requires)) (omega arith) (λ l. refl)

pub returns : goal.returns
returns g c = changed _ (held_by c.args.seat) _ c.self.invariant c.self.view_is (resting_open c.args.self.now c.args.ticket c.requires) c.open_at-found.ensures.value (λ there. c.hold.ensures (resting_active c.args.self.now c.args.ticket _ there c.requires))
