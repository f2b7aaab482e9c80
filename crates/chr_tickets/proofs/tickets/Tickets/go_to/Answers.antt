use Rattle.std.proofs.Common.{sym, ap, ◌∙◌, arith}
use Rattle.chr_calls.specs.Tickets.{Ticket, going_on}
use Rattle.chr_tickets.proofs.Changes.{open_at, changed, still_queued, same_mark, active_open}
use Rattle.chr_tickets.proofs.tickets.Tickets.go_to.Goals as goal

pub open_at-found-requires : goal.open_at-found-requires
open_at-found-requires g c = open_at c.self.invariant c.self.view_is (active_open c.args.self.now c.args.ticket (c.args.place.label, c.requires))

pub invariant_of-self : goal.invariant_of-self
invariant_of-self g c = still_queued _ _ (going_on c.args.place.place) _ c.self.invariant c.self.view_is (active_open c.args.self.now c.args.ticket (c.args.place.label, c.requires)) c.open_at-found.ensures.value (λ there. c.go_to.ensures (ap (λ (x : Ticket). x.goal) (sym there) ∙ c.requires)) (omega arith) (same_mark c.args.ticket c.self.invariant c.self.view_is)

pub returns : goal.returns
returns g c = changed _ (going_on c.args.place.place) _ c.self.invariant c.self.view_is (active_open c.args.self.now c.args.ticket (c.args.place.label, c.requires)) c.open_at-found.ensures.value (λ there. c.go_to.ensures (ap (λ (x : Ticket). x.goal) (sym there) ∙ c.requires))
