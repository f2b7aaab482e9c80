use Rattle.std.proofs.Common.{◌≡◌, ◌+◌, ◌-◌, ◌++◌, ◌∷◌, [], drop, take, set, get_or, None, Some, refl, sym, ap, subst, ◌∙◌, arith}
use Rattle.std.specs.Option.{IsSome}
use Rattle.std.specs.Vec.{vec_len}
use Rattle.chr_calls.specs.Tickets.{Ticket, waiting}
use Rattle.chr_tickets.specs.Open.{shown_ticket}
use Rattle.chr_tickets.specs.Listed.{listed, AreSlots}
use Rattle.chr_tickets.proofs.Changes.{open_at, seen, still_queued, made_is, made_set, made_gone, made_open, made_last, adds, tickets_are}
use Rattle.chr_tickets.proofs.tickets.Tickets.push_made.Given.{Over}
use Rattle.chr_tickets.proofs.tickets.Tickets.push_made.Goals as goal
use Rattle.chr_tickets.proofs.tickets.Tickets.push_made.Goals.{After-open_last-found, After-add_arguments}

-- the place of the ticket that has come
place : (g : Over) (c : After-open_last-found g) → vec_len c.self.inside.slots - 1 ≡ c.next-ticket.result - c.self.inside.first
place g c =
    let ok = c.self.inside.slots.ok in
    let last = made_last c.args.self.now (waiting c.new.result) c.self.invariant c.self.view_is c.next-ticket.ensures.value c.in_ok-push.ensures.ok in
    omega arith

there : (g : Over) (c : After-open_last-found g) → Some c.open_last-found.result.now ≡ get_or c.self.inside.slots.items (c.next-ticket.result - c.self.inside.first) (Some c.open_last-found.result.now)
there g c = c.open_last-found.ensures.value ∙ ap (λ k. get_or c.self.inside.slots.items k (Some c.open_last-found.result.now)) (place g c)

found : (g : Over) (c : After-open_last-found g) → shown_ticket c.open_last-found.result.now ≡ waiting c.new.result
found g c = sym (seen _ c.self.invariant c.self.view_is (made_open c.args.self.now c.new.result c.next-ticket.ensures.value c.in_ok-push.ensures.ok) (there g c)) ∙ made_is c.args.self.now (waiting c.new.result) c.next-ticket.ensures.value c.in_ok-push.ensures.ok

-- once it has changed
queued : (g : Over) (c : After-add_arguments g) → vec_len c.self.inside.slots - 1 ≡ c.next-ticket.result - c.self.inside.first → Some c.open_last-found.result.now ≡ get_or c.self.inside.slots.items (c.next-ticket.result - c.self.inside.first) (Some c.open_last-found.result.now) → shown_ticket c.open_last-found.result.now ≡ waiting c.new.result → AreSlots {Z = g.row.A.Denot} c.self.inside.first c.self.inside.gone (set c.self.inside.slots.items (vec_len c.self.inside.slots - 1) (Some c.add_arguments.new.self)) c.self.inside.unmarked
queued g c at has is =
    subst (λ k. AreSlots {Z = g.row.A.Denot} c.self.inside.first c.self.inside.gone (set c.self.inside.slots.items k (Some c.add_arguments.new.self)) c.self.inside.unmarked) (sym at)
    (still_queued _ _ (λ x. shown_ticket c.add_arguments.new.self) _ c.self.invariant c.self.view_is (made_open c.args.self.now c.new.result c.next-ticket.ensures.value c.in_ok-push.ensures.ok) has (λ there. refl) (omega arith)
    (λ less. c.add_arguments.ensures.mark ∙ ap (λ (x : Ticket). x.stray) is))

now : (g : Over) (c : After-add_arguments g) → vec_len c.self.inside.slots - 1 ≡ c.next-ticket.result - c.self.inside.first → Some c.open_last-found.result.now ≡ get_or c.self.inside.slots.items (c.next-ticket.result - c.self.inside.first) (Some c.open_last-found.result.now) → listed {Z = g.row.A.Denot} (c.self.inside.first + c.self.inside.gone) (drop c.self.inside.gone (set c.self.inside.slots.items (vec_len c.self.inside.slots - 1) (Some c.add_arguments.new.self))) ≡ set c.push.new.self c.next-ticket.result (shown_ticket c.add_arguments.new.self)
now g c at has =
    ap (λ k. listed {Z = g.row.A.Denot} (c.self.inside.first + c.self.inside.gone) (drop c.self.inside.gone (set c.self.inside.slots.items k (Some c.add_arguments.new.self)))) at
    ∙ tickets_are _ c.add_arguments.new.self c.self.invariant c.self.view_is (made_open c.args.self.now c.new.result c.next-ticket.ensures.value c.in_ok-push.ensures.ok) has

-- and once it is taken back
back : (g : Over) (c : After-add_arguments g) → vec_len c.self.inside.slots - 1 ≡ c.next-ticket.result - c.self.inside.first → Some c.open_last-found.result.now ≡ get_or c.self.inside.slots.items (c.next-ticket.result - c.self.inside.first) (Some c.open_last-found.result.now) → take c.next-ticket.result (listed {Z = g.row.A.Denot} (c.self.inside.first + c.self.inside.gone) (drop c.self.inside.gone (set c.self.inside.slots.items (vec_len c.self.inside.slots - 1) (Some c.add_arguments.new.self)))) ≡ c.args.self.now
back g c at has = ap (take c.next-ticket.result) (now g c at has) ∙ made_gone c.args.self.now (waiting c.new.result) (shown_ticket c.add_arguments.new.self) c.next-ticket.ensures.value c.in_ok-push.ensures.ok

-- ---- the goals

pub open_last-found-requires-clause-any : goal.open_last-found-requires-clause-any
open_last-found-requires-clause-any g c =
    let ok = c.self.inside.slots.ok in
    let has = open_at c.self.invariant c.self.view_is (made_open c.args.self.now c.new.result c.next-ticket.ensures.value c.in_ok-push.ensures.ok) in
    let within = has.within in
    omega arith

pub open_last-found-requires-clause-some : goal.open_last-found-requires-clause-some
open_last-found-requires-clause-some g c =
    let ok = c.self.inside.slots.ok in
    let last = made_last c.args.self.now (waiting c.new.result) c.self.invariant c.self.view_is c.next-ticket.ensures.value c.in_ok-push.ensures.ok in
    let at : c.next-ticket.result - c.self.inside.first ≡ vec_len c.self.inside.slots - 1 = omega arith in
    let has = open_at c.self.invariant c.self.view_is (made_open c.args.self.now c.new.result c.next-ticket.ensures.value c.in_ok-push.ensures.ok) in
    subst (λ k. IsSome (get_or c.self.inside.slots.items k None)) at has.some

pub add_arguments-requires : goal.add_arguments-requires
add_arguments-requires g c = (omega arith, found g (goal.at.add_arguments-requires g c).After-open_last-found ∙ ap waiting c.new.ensures)

pub invariant_of-self : goal.invariant_of-self
invariant_of-self g c =
    let last = (goal.at.invariant_of-self g c).After-open_last-found in
    queued g (goal.at.invariant_of-self g c).After-add_arguments (place g last) (there g last) (found g last)

pub invariant_of-self-in-Ok-false : goal.invariant_of-self-in-Ok-false
invariant_of-self-in-Ok-false g c =
    let last = (goal.at.invariant_of-self-in-Ok-false g c).After-open_last-found in
    queued g (goal.at.invariant_of-self-in-Ok-false g c).After-add_arguments (place g last) (there g last) (found g last)

pub invariant_of-self-in-Err : goal.invariant_of-self-in-Err
invariant_of-self-in-Err g c =
    let last = (goal.at.invariant_of-self-in-Err g c).After-open_last-found in
    queued g (goal.at.invariant_of-self-in-Err g c).After-add_arguments (place g last) (there g last) (found g last)

pub returns-in-Ok-true-clause-ok : goal.returns-in-Ok-true-clause-ok
returns-in-Ok-true-clause-ok g c =
    let last = (goal.at.returns-in-Ok-true-clause-ok g c).After-open_last-found in
    let made = c.in-Ok-true.ensures.made c.in-Ok-true.field-0-test in
    adds c.args.self.now _ made.1 (
    now g (goal.at.returns-in-Ok-true-clause-ok g c).After-add_arguments (place g last) (there g last)
    ∙ made_set c.args.self.now (waiting c.new.result) (shown_ticket c.add_arguments.new.self) c.next-ticket.ensures.value c.in_ok-push.ensures.ok
    ∙ ap (λ (x : Ticket). c.args.self.now ++ x ∷ []) made.2
    )

pub returns-in-Ok-false-clause-ok : goal.returns-in-Ok-false-clause-ok
returns-in-Ok-false-clause-ok g c =
    let last = (goal.at.returns-in-Ok-false-clause-ok g c).After-open_last-found in
    adds c.args.self.now c.truncate.new.self (c.in-Ok-false.ensures.none c.in-Ok-false.field-0-test) (c.truncate.ensures ∙ back g (goal.at.returns-in-Ok-false-clause-ok g c).After-add_arguments (place g last) (there g last))

pub returns-in-Err-clause-err : goal.returns-in-Err-clause-err
returns-in-Err-clause-err g c =
    let last = (goal.at.returns-in-Err-clause-err g c).After-open_last-found in
    c.truncate-in-Err.ensures ∙ back g (goal.at.returns-in-Err-clause-err g c).After-add_arguments (place g last) (there g last)
