use Rattle.std.proofs.Common.{◌+◌, ◌∙◌, sym, ap, subst}
use Rattle.chr_calls.specs.Tickets.{state_of, IsClaimable}
use Rattle.chr_calls.specs.declared.answers.TicketState.TheVariants.{Held, Ended}
use Rattle.chr_crew.proofs.Free.{AreFreeBelow, unknown_past, claimable_free, not_claimable, unclaimable_held, unclaimable_ended, free_more, free_same, free_all}
use Rattle.chr_crew.proofs.crew.free_tickets.Goals as goal
use Rattle.chr_crew.proofs.crew.free_tickets.Goals.{in-Waiting+in_ok-push-in-Waiting, in-Held, in-Ended}

pub returns-in-Unknown : goal.returns-in-Unknown
returns-in-Unknown g c =
    free_all c.args.book.now.tickets c.loop-ticket.ticket c.loop-ticket.free.items c.loop-ticket.invariant
    (unknown_past c.args.book.now.tickets c.loop-ticket.ticket c.loop-ticket.auto.ticket (sym c.state.ensures ∙ c.in-Unknown.is))

pub loop-ticket-preserved : goal.loop-ticket-preserved
loop-ticket-preserved g c =
    let tickets = c.args.book.now.tickets in
    let t = c.loop-ticket.ticket in
    let free = c.loop-ticket.free.items in
    let i = c.loop-ticket.invariant in
    elim c.match-state.branch [
      | in-Waiting+in_ok-push-in-Waiting w ↦
          subst (AreFreeBelow tickets (t + 1)) (sym (ap (λ v. v.items) w.free-is ∙ w.in_ok-push-in-Waiting.ensures.items))
          (free_more tickets t free i (subst IsClaimable c.state.ensures (claimable_free c.state.result w.in-Waiting.is)))
      | in-Held w ↦
          subst (AreFreeBelow tickets (t + 1)) (sym (ap (λ v. v.items) w.free-is))
          (free_same tickets t free i (not_claimable (state_of tickets t) (Held w.in-Held.field-0) (sym c.state.ensures ∙ w.in-Held.is) (unclaimable_held w.in-Held.field-0)))
      | in-Ended w ↦
          subst (AreFreeBelow tickets (t + 1)) (sym (ap (λ v. v.items) w.free-is))
          (free_same tickets t free i (not_claimable (state_of tickets t) Ended (sym c.state.ensures ∙ w.in-Ended.is) unclaimable_ended))
    ]
