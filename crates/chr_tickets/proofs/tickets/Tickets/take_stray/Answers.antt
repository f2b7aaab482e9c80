use Rattle.std.proofs.Common.{false, refl, arith}
use Rattle.chr_calls.specs.Tickets.{marked}
use Rattle.chr_tickets.proofs.Changes.{open_at, changed, still_queued, stray_open, shown_marked}
use Rattle.chr_tickets.proofs.Ends.{slots_least}
use Rattle.chr_tickets.proofs.tickets.Tickets.take_stray.Goals as goal

pub open_at-found-requires : goal.open_at-found-requires
open_at-found-requires g c = open_at c.self.invariant c.self.view_is (stray_open c.args.self.now c.in-Some.ticket c.in-Some.ensures.stray)

pub invariant_of-self : goal.invariant_of-self
invariant_of-self g c = slots_least _ c.self.invariant c.self.view_is (λ u h. absurd (c.in_default.ensures u h))

pub invariant_of-self-2 : goal.invariant_of-self-2
invariant_of-self-2 g c =
    still_queued _ _ (marked false) _ (slots_least c.in-Some.ticket c.self.invariant c.self.view_is c.in-Some.ensures.least) c.self.view_is (stray_open c.args.self.now c.in-Some.ticket c.in-Some.ensures.stray) c.open_at-found.ensures.value
    (λ there. shown_marked c.open_at-found.result.now.goal false c.open_at-found.result.now.stray) (omega arith) (λ l. refl)

pub returns : goal.returns
returns g c = (c.in-Some.ensures.stray, c.in-Some.ensures.least, changed _ (marked false) _ c.self.invariant c.self.view_is (stray_open c.args.self.now c.in-Some.ticket c.in-Some.ensures.stray) c.open_at-found.ensures.value (λ there. shown_marked c.open_at-found.result.now.goal false c.open_at-found.result.now.stray))
