use Rattle.std.proofs.Common.{arith}
use Rattle.chr_calls.specs.Tickets.{with_candidate}
use Rattle.chr_tickets.proofs.Changes.{open_at, changed, still_queued, same_mark, active_open, active_here}
use Rattle.chr_tickets.proofs.tickets.Tickets.set_candidate.Goals as goal

pub open_at-found-requires : goal.open_at-found-requires
open_at-found-requires g c = open_at c.self.invariant c.self.view_is (active_open c.args.self.now c.args.ticket c.requires)

pub invariant_of-self : goal.invariant_of-self
invariant_of-self g c = still_queued _ _ (with_candidate c.args.candidate) _ c.self.invariant c.self.view_is (active_open c.args.self.now c.args.ticket c.requires) c.open_at-found.ensures.value (λ there. c.set_candidate.ensures (active_here c.args.self.now c.args.ticket _ there c.requires)) (omega arith) (same_mark c.args.ticket c.self.invariant c.self.view_is)

pub returns : goal.returns
returns g c = changed _ (with_candidate c.args.candidate) _ c.self.invariant c.self.view_is (active_open c.args.self.now c.args.ticket c.requires) c.open_at-found.ensures.value (λ there. c.set_candidate.ensures (active_here c.args.self.now c.args.ticket _ there c.requires))
