use Rattle.std.proofs.Common.{arith}
use Rattle.chr_tickets.proofs.Changes.{length_shown}
use Rattle.chr_tickets.proofs.tickets.Tickets.next.Goals as goal

pub returns-clause-value : goal.returns-clause-value
returns-clause-value g c =
    let long = length_shown c.self.invariant c.self.view_is in
    let ok = c.self.inside.slots.ok in
    omega arith

pub returns-clause-some : goal.returns-clause-some
returns-clause-some g c =
    let long = length_shown c.self.invariant c.self.view_is in
    let some = c.self.invariant.queued.some in
    let within = c.self.invariant.within in
    omega arith
