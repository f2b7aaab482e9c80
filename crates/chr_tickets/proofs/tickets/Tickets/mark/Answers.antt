use Rattle.std.proofs.Common.{true, arith}
use Rattle.chr_calls.specs.Tickets.{marked}
use Rattle.chr_tickets.proofs.Changes.{open_at, changed, still_queued, claimable_open, shown_marked}
use Rattle.chr_tickets.proofs.tickets.Tickets.mark.Goals as goal

pub open_at-found-requires : goal.open_at-found-requires
open_at-found-requires g c = open_at c.self.invariant c.self.view_is (claimable_open c.args.self.now c.args.ticket c.requires)

pub invariant_of-self : goal.invariant_of-self
invariant_of-self g c = still_queued _ _ (marked true) _ c.self.invariant c.self.view_is (claimable_open c.args.self.now c.args.ticket c.requires) c.open_at-found.ensures.value (λ there. shown_marked c.open_at-found.result.now.goal true c.open_at-found.result.now.stray) (omega arith) (λ l. absurd (omega arith))

pub returns : goal.returns
returns g c = changed _ (marked true) _ c.self.invariant c.self.view_is (claimable_open c.args.self.now c.args.ticket c.requires) c.open_at-found.ensures.value (λ there. shown_marked c.open_at-found.result.now.goal true c.open_at-found.result.now.stray)
