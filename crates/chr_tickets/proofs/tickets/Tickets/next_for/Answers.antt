use Rattle.std.proofs.Common.{◌+◌, refl, sym, ap, ◌∙◌, arith}
use Rattle.chr_tickets.specs.Listed.{shown_or_ended}
use Rattle.chr_tickets.proofs.Changes.{length_shown}
use Rattle.chr_tickets.proofs.Ends.{free, below_first, at_place, next_place, least_for, none_left, none_for}
use Rattle.chr_tickets.proofs.tickets.Tickets.next_for.Goals as goal
use Rattle.chr_tickets.proofs.tickets.Tickets.next_for.Goals.{in-Some+else-is_free_for, in_default}

pub loop-at-init : goal.loop-at-init
loop-at-init g c = below_first (free c.args.seat) _ _ c.args.self.now refl c.self.view_is

pub loop-at-preserved : goal.loop-at-preserved
loop-at-preserved g c =
    let ok = c.self.inside.slots.ok in
    let behind = c.loop-at.auto.at in
    next_place (free c.args.seat) c.loop-at.at c.self.invariant c.self.view_is behind (omega arith) c.index.ensures c.loop-at.invariant
    (elim c.match-index.branch [
      | in-Some+else-is_free_for w ↦ ap (λ x. free c.args.seat (shown_or_ended x)) w.in-Some.is ∙ sym w.is_free_for.ensures ∙ w.if-is_free_for.false
      | in_default w ↦ ap (λ x. free c.args.seat (shown_or_ended x)) w.in_default.is
    ])

pub returns-then-is_free_for : goal.returns-then-is_free_for
returns-then-is_free_for g c =
    let ok = c.self.inside.slots.ok in
    let behind = c.loop-at.auto.at in
    let some = c.self.invariant.queued.some in
    let long = length_shown c.self.invariant c.self.view_is in
    least_for c.args.seat c.args.self.now (c.self.inside.first + c.loop-at.at) c.loop-at.invariant (omega arith) (omega arith)
    (ap (free c.args.seat) (at_place c.loop-at.at c.self.invariant c.self.view_is behind (omega arith) c.index.ensures ∙ ap shown_or_ended c.in-Some.is) ∙ sym c.is_free_for.ensures ∙ c.if-is_free_for.true)

pub returns : goal.returns
returns g c =
    let ok = c.self.inside.slots.ok in
    none_for c.args.seat c.args.self.now (none_left (free c.args.seat) (c.self.inside.first + c.loop-at.at) refl c.self.invariant c.self.view_is c.loop-at.invariant (omega arith))
