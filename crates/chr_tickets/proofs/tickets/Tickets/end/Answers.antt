use Rattle.std.proofs.Common.{◌≡◌, set, sym, ap, ◌∙◌, arith}
use Rattle.std.proofs.lemmas.List.{set-get_or}
use Rattle.chr_calls.specs.Tickets.{ended, ticket_at}
use Rattle.chr_tickets.proofs.Changes.{missing, passed}
use Rattle.chr_tickets.proofs.Ends.{ended_first, slots_first, ended_behind, slots_behind}
use Rattle.chr_tickets.proofs.tickets.Tickets.end.Goals as goal
use Rattle.chr_tickets.proofs.tickets.Tickets.end.Goals.{then-at-len-via-then-at-len, then-at-len-via-else-at-len+then-at-self}

pub returns-then-at-len : goal.returns-then-at-len
returns-then-at-len g c =
    let ok = c.self.inside.slots.ok in
    let has_ended : ticket_at c.args.self.now c.args.ticket ≡ ended =
    elim c.then-at-len.branch [
      | then-at-len-via-then-at-len w ↦ missing c.args.ticket c.place_of-at.result c.self.invariant c.self.view_is c.place_of-at.ensures c.place_of-at.type_inv (let past = w.if-at-len.true in omega arith)
      | then-at-len-via-else-at-len+then-at-self w ↦ passed c.args.ticket c.place_of-at.result c.self.invariant c.self.view_is c.place_of-at.ensures w.if-at-self.true
    ] in
    sym (ap (set c.args.self.now c.args.ticket) (sym has_ended) ∙ set-get_or c.args.self.now c.args.ticket ended)

pub invariant_of-self : goal.invariant_of-self
invariant_of-self g c =
    let ok = c.self.inside.slots.ok in
    slots_behind c.args.ticket c.place_of-at.result c.self.invariant c.self.view_is c.place_of-at.ensures c.if-at-self-2.true (omega arith)

pub returns-then-at-self-2 : goal.returns-then-at-self-2
returns-then-at-self-2 g c =
    let ok = c.self.inside.slots.ok in
    ended_behind c.args.ticket c.place_of-at.result c.self.invariant c.self.view_is c.place_of-at.ensures c.if-at-self-2.true (omega arith)

pub invariant_of-self-2 : goal.invariant_of-self-2
invariant_of-self-2 g c =
    let ok = c.self.inside.slots.ok in
    let within = c.next_open-self-inside.ensures.within in
    slots_first c.args.ticket c.next_open-self-inside.result c.self.invariant c.self.view_is (omega arith) within.1 c.next_open-self-inside.ensures.open
    (c.next_open-self-inside.ensures.listed c.self.inside.first ∙ ended_first c.args.ticket c.place_of-at.result c.self.invariant c.self.view_is c.place_of-at.ensures (omega arith) (omega arith))

pub returns : goal.returns
returns g c =
    let ok = c.self.inside.slots.ok in
    c.next_open-self-inside.ensures.listed c.self.inside.first ∙ ended_first c.args.ticket c.place_of-at.result c.self.invariant c.self.view_is c.place_of-at.ensures (omega arith) (omega arith)
