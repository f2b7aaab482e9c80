use Rattle.std.proofs.Common.{◌≡◌, ℕ, List, refl, sym, ap, subst, ◌∙◌, arith, set}
use Rattle.chr_model.specs.Goals.{Numbered}
use Rattle.chr_search.specs.Trials.{older}
use Rattle.chr_calls.specs.Tickets.{Ticket, ticket_at}
use Rattle.chr_tickets.specs.Open.{shown_ticket}
use Rattle.chr_tickets.specs.Passed.{PassesOver}
use Rattle.chr_tickets.proofs.Changes.{open_at, seen, still_queued, same_mark, still_unmarked, tickets_are, ticket_is, active_open, active_here}
use Rattle.chr_tickets.proofs.tickets.Tickets.pass_over.Given.{Over}
use Rattle.chr_tickets.proofs.tickets.Tickets.pass_over.Goals as goal
use Rattle.chr_tickets.proofs.tickets.Tickets.pass_over.Goals.{After-pass_over}

-- what the ticket has passed over
over : (g : Over) (c : After-pass_over g) → ticket_at c.args.self.now c.args.ticket ≡ shown_ticket c.open_at-found.result.now → (l : ℕ) → (ticket_at c.args.self.now c.args.ticket).goal ≡ Numbered l → PassesOver (older c.args.program.now c.args.plans.now c.args.store.now.entries l) c.pass_over.result c.pass_over.new.instance c.pass_over.new.bound (ticket_at c.args.self.now c.args.ticket) (shown_ticket c.pass_over.new.self)
over g c there l is =
    subst (λ (x : Ticket). PassesOver (older c.args.program.now c.args.plans.now c.args.store.now.entries l) c.pass_over.result c.pass_over.new.instance c.pass_over.new.bound x (shown_ticket c.pass_over.new.self)) (sym there)
    (c.pass_over.ensures.passed l (ap (λ (x : Ticket). x.goal) (sym there) ∙ is))

pub open_at-found-requires : goal.open_at-found-requires
open_at-found-requires g c = open_at c.self.invariant c.self.view_is (active_open c.args.self.now c.args.ticket c.requires.active)

pub pass_over-requires : goal.pass_over-requires
pass_over-requires g c = (
  omega arith,
  (active_here c.args.self.now c.args.ticket _ (seen _ c.self.invariant c.self.view_is (active_open c.args.self.now c.args.ticket c.requires.active) c.open_at-found.ensures.value) c.requires.active, c.requires.plans),
)

pub invariant_of-self : goal.invariant_of-self
invariant_of-self g c =
    let live = active_open c.args.self.now c.args.ticket c.requires.active in
    still_queued _ _ (λ x. shown_ticket c.pass_over.new.self) _ c.self.invariant c.self.view_is live c.open_at-found.ensures.value (λ there. refl) (omega arith)
    (λ less. still_unmarked (over g (goal.at.invariant_of-self g c).After-pass_over (seen _ c.self.invariant c.self.view_is live c.open_at-found.ensures.value) c.requires.active.0 c.requires.active.1) (same_mark c.args.ticket c.self.invariant c.self.view_is less))

pub returns-clause-passed : goal.returns-clause-passed
returns-clause-passed g c = λ l is.
    let live = active_open c.args.self.now c.args.ticket c.requires.active in
    let made = tickets_are _ c.pass_over.new.self c.self.invariant c.self.view_is live c.open_at-found.ensures.value in
    subst (PassesOver (older c.args.program.now c.args.plans.now c.args.store.now.entries l) c.pass_over.result c.pass_over.new.instance c.pass_over.new.bound (ticket_at c.args.self.now c.args.ticket))
    (sym (ap (λ (xs : List Ticket). ticket_at xs c.args.ticket) made ∙ ticket_is c.args.self.now c.args.ticket (shown_ticket c.pass_over.new.self) live)) (over g (goal.at.returns-clause-passed g c).After-pass_over (seen _ c.self.invariant c.self.view_is live c.open_at-found.ensures.value) l is)

pub returns-clause-others : goal.returns-clause-others
returns-clause-others g c =
    let live = active_open c.args.self.now c.args.ticket c.requires.active in
    let made = tickets_are _ c.pass_over.new.self c.self.invariant c.self.view_is live c.open_at-found.ensures.value in
    made ∙ ap (set c.args.self.now c.args.ticket) (sym (ap (λ (xs : List Ticket). ticket_at xs c.args.ticket) made ∙ ticket_is c.args.self.now c.args.ticket (shown_ticket c.pass_over.new.self) live))
