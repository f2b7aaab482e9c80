use Rattle.std.proofs.Common.{◌≡◌, ◌<◌, ◌≤◌, length, get_or, sym, ap, subst, ◌∙◌, arith}
use Rattle.std.specs.Option.{MatchOption}
use Rattle.chr_calls.specs.Tickets.{ended, ticket_at}
use Rattle.chr_tickets.specs.Open.{shown_ticket}
use Rattle.chr_tickets.specs.Listed.{shown_or_ended}
use Rattle.chr_tickets.proofs.Changes.{placed, missing, passed, here}
use Rattle.chr_tickets.proofs.tickets.Tickets.found.Goals as goal

pub returns-then-at-self-clause-ticket : goal.returns-then-at-self-clause-ticket
returns-then-at-self-clause-ticket g c = passed c.args.ticket c.place_of-at.result c.self.invariant c.self.view_is c.place_of-at.ensures c.if-at-self.true

pub returns-in_err-found-clause-ticket : goal.returns-in_err-found-clause-ticket
returns-in_err-found-clause-ticket g c =
    let long = ap length c.deref.ensures.value in
    let past : length c.self.inside.slots.items ≤ c.place_of-at.result = (let p = c.in_err-found.ensures.lookup.3 in omega arith) in
    subst (λ o. MatchOption o (ticket_at c.args.self.now c.args.ticket ≡ ended) (λ x. shown_ticket x.now ≡ ticket_at c.args.self.now c.args.ticket)) (sym c.from_residual.ensures)
    (missing c.args.ticket c.place_of-at.result c.self.invariant c.self.view_is c.place_of-at.ensures c.place_of-at.type_inv past)

pub returns-in-Some-clause-ticket : goal.returns-in-Some-clause-ticket
returns-in-Some-clause-ticket g c =
    let long = ap length c.deref.ensures.value in
    let within : c.place_of-at.result < length c.self.inside.slots.items = (let w = c.in_ok-found.ensures.lookup.3.0 in omega arith) in
    ap shown_or_ended (sym c.in-Some.is) ∙ sym (here (placed c.args.ticket c.place_of-at.result c.self.invariant c.place_of-at.ensures c.if-at-self.false within) c.self.view_is (c.in_ok-found.ensures.lookup.1 ∙ ap (λ xs. get_or xs c.place_of-at.result c.in_ok-found.field-0.now) c.deref.ensures.value))

pub returns-in-None-clause-ticket : goal.returns-in-None-clause-ticket
returns-in-None-clause-ticket g c =
    let long = ap length c.deref.ensures.value in
    let within : c.place_of-at.result < length c.self.inside.slots.items = (let w = c.in_ok-found.ensures.lookup.3.0 in omega arith) in
    here (placed c.args.ticket c.place_of-at.result c.self.invariant c.place_of-at.ensures c.if-at-self.false within) c.self.view_is (c.in_ok-found.ensures.lookup.1 ∙ ap (λ xs. get_or xs c.place_of-at.result c.in_ok-found.field-0.now) c.deref.ensures.value) ∙ ap shown_or_ended c.in-None.is
