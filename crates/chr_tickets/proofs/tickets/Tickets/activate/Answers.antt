use Rattle.std.proofs.Common.{refl, arith}
use Rattle.chr_calls.specs.Tickets.{Ticket, activated_by}
use Rattle.chr_tickets.proofs.Changes.{open_at, changed, still_queued, waiting_open}
use Rattle.chr_tickets.proofs.tickets.Tickets.activate.Goals as goal

pub open_at-found-requires : goal.open_at-found-requires
open_at-found-requires g c = open_at c.self.invariant c.self.view_is (waiting_open c.args.self.now c.args.ticket c.requires)

pub invariant_of-self : goal.invariant_of-self
invariant_of-self g c = still_queued _ _ (λ (_ : Ticket). activated_by c.args.seat c.args.label) _ c.self.invariant c.self.view_is (waiting_open c.args.self.now c.args.ticket c.requires) c.open_at-found.ensures.value (λ there. c.activate.ensures) (omega arith) (λ l. refl)

pub returns : goal.returns
returns g c = changed _ (λ (_ : Ticket). activated_by c.args.seat c.args.label) _ c.self.invariant c.self.view_is (waiting_open c.args.self.now c.args.ticket c.requires) c.open_at-found.ensures.value (λ there. c.activate.ensures)
