use Rattle.std.proofs.Common.{◌≡◌, MatchBool, Some, slice_set, refl, sym, ap, subst, ◌∙◌, arith}
use Rattle.std.proofs.lemmas.List.{set-get_or}
use Rattle.chr_calls.specs.Tickets.{Ticket, ticket_at, atom_in}
use Rattle.chr_tickets.specs.Open.{shown_ticket, with_atom}
use Rattle.chr_tickets.specs.Listed.{AreSlots, shown_or_ended}
use Rattle.chr_tickets.proofs.Changes.{Stands, placed, missing, passed, here, put, kept, same_mark, never_waits, waits_there, changed_where}
use Rattle.chr_tickets.proofs.tickets.Tickets.take_waiting.Goals as goal
use Rattle.chr_tickets.proofs.tickets.Tickets.take_waiting.Goals.{After-take_waiting, then-at-len-via-then-at-len, then-at-len-via-else-at-len+then-at-self}

-- where the slot stands, and the ticket in it
stands : (g : _) (c : After-take_waiting g) → Stands c.self.inside.first c.self.inside.gone c.self.inside.slots.items c.args.ticket c.place_of-at.result
stands g c = let ok = c.self.inside.slots.ok in placed c.args.ticket c.place_of-at.result c.self.invariant c.place_of-at.ensures (omega arith) (omega arith)

there : (g : _) (c : After-take_waiting g) → ticket_at c.args.self.now c.args.ticket ≡ shown_ticket c.in-Some.found
there g c = here (stands g c) c.self.view_is c.index_mut.ensures.value ∙ ap shown_or_ended c.in-Some.is

pub returns-then-at-len-clause-waits : goal.returns-then-at-len-clause-waits
returns-then-at-len-clause-waits g c =
    let ok = c.self.inside.slots.ok in
    never_waits c.args.self.now c.args.ticket
    (elim c.then-at-len.branch [
      | then-at-len-via-then-at-len w ↦ missing c.args.ticket c.place_of-at.result c.self.invariant c.self.view_is c.place_of-at.ensures c.place_of-at.type_inv (let past = w.if-at-len.true in omega arith)
      | then-at-len-via-else-at-len+then-at-self w ↦ passed c.args.ticket c.place_of-at.result c.self.invariant c.self.view_is c.place_of-at.ensures w.if-at-self.true
    ])

pub invariant_of-self : goal.invariant_of-self
invariant_of-self g c = subst (λ slots. AreSlots c.self.inside.first c.self.inside.gone slots c.self.inside.unmarked) (sym (ap (slice_set c.self.inside.slots.items c.place_of-at.result) c.index_mut.ensures.value ∙ set-get_or c.self.inside.slots.items c.place_of-at.result c.index_mut.result.now)) c.self.invariant

pub returns-in_default-clause-waits : goal.returns-in_default-clause-waits
returns-in_default-clause-waits g c =
    let ok = c.self.inside.slots.ok in
    never_waits c.args.self.now c.args.ticket (here (placed c.args.ticket c.place_of-at.result c.self.invariant c.place_of-at.ensures (omega arith) (omega arith)) c.self.view_is c.index_mut.ensures.value ∙ ap shown_or_ended c.in_default.is)

pub invariant_of-self-2 : goal.invariant_of-self-2
invariant_of-self-2 g c =
    let step = (goal.at.invariant_of-self-2 g c).After-take_waiting in
    kept c.self.inside.unmarked (shown_ticket c.take_waiting.new.self) (Some c.take_waiting.new.self) c.self.invariant c.self.view_is (put (Some c.take_waiting.new.self) (stands g step) c.self.view_is) (let s = stands g step in s.behind) (λ first. refl) (omega arith) (λ less. c.take_waiting.ensures.mark ∙ ap (λ (x : Ticket). x.stray) (sym (there g step)) ∙ same_mark c.args.ticket c.self.invariant c.self.view_is less)

pub returns-clause-waits : goal.returns-clause-waits
returns-clause-waits g c =
    let step = (goal.at.returns-clause-waits g c).After-take_waiting in
    waits_there c.take_waiting.result (shown_ticket c.in-Some.found) c.self.invariant (stands g step) c.self.view_is (there g step) c.take_waiting.ensures.waits

pub returns-clause-atom : goal.returns-clause-atom
returns-clause-atom g c =
    let step = (goal.at.returns-clause-atom g c).After-take_waiting in
    subst (λ (x : Ticket). MatchBool c.take_waiting.result (Some c.take_waiting.new.other ≡ atom_in x.goal) (c.take_waiting.new.other ≡ c.args.other.now)) (sym (there g step)) c.take_waiting.ensures.atom

pub returns-clause-tickets : goal.returns-clause-tickets
returns-clause-tickets g c =
    let step = (goal.at.returns-clause-tickets g c).After-take_waiting in
    changed_where c.args.self.now (shown_ticket c.take_waiting.new.self) c.take_waiting.result c.args.ticket (with_atom c.args.other.now) (there g step) (put (Some c.take_waiting.new.self) (stands g step) c.self.view_is) c.take_waiting.ensures.ticket
