use Rattle.std.proofs.Common.{◌+◌, ◌≤◌, max, refl, ap, ◌∙◌, arith}
use Rattle.chr_calls.specs.Tickets.{Ticket}
use Rattle.chr_tickets.specs.Listed.{shown_or_ended}
use Rattle.chr_tickets.proofs.Changes.{shown_stray}
use Rattle.chr_tickets.proofs.Ends.{below_start, at_place, next_place, least, none_left}
use Rattle.chr_tickets.proofs.tickets.Tickets.first_stray.Goals as goal
use Rattle.chr_tickets.proofs.tickets.Tickets.first_stray.Goals.{in-Some+else-found, in_default}

pub loop-at-init : goal.loop-at-init
loop-at-init g c = below_start c.max-start.result c.self.invariant c.self.view_is (c.max-start.ensures ∙ ap (λ n. max n c.self.inside.gone) c.saturating_sub.ensures)

pub loop-at-preserved : goal.loop-at-preserved
loop-at-preserved g c =
    let ok = c.self.inside.slots.ok in
    let behind : c.self.inside.gone ≤ c.loop-at.at = (let start = c.max-start.ensures in let after = c.loop-at.auto.at in omega arith) in
    next_place (λ (x : Ticket). x.stray) c.loop-at.at c.self.invariant c.self.view_is behind (omega arith) c.index.ensures c.loop-at.invariant
    (elim c.match-index.branch [
      | in-Some+else-found w ↦ ap (λ x. (shown_or_ended x).stray) w.in-Some.is ∙ shown_stray w.in-Some.found.goal w.in-Some.found.stray ∙ w.if-found.false
      | in_default w ↦ ap (λ x. (shown_or_ended x).stray) w.in_default.is
    ])

pub returns-then-found : goal.returns-then-found
returns-then-found g c =
    let ok = c.self.inside.slots.ok in
    let behind : c.self.inside.gone ≤ c.loop-at.at = (let start = c.max-start.ensures in let after = c.loop-at.auto.at in omega arith) in
    record {
      stray = ap (λ (x : Ticket). x.stray) (at_place c.loop-at.at c.self.invariant c.self.view_is behind (omega arith) c.index.ensures ∙ ap shown_or_ended c.in-Some.is) ∙ shown_stray c.in-Some.found.goal c.in-Some.found.stray ∙ c.if-found.true;
      least = λ u h. least (λ (x : Ticket). x.stray) c.args.self.now (c.self.inside.first + c.loop-at.at) u c.loop-at.invariant h;
    }

pub returns : goal.returns
returns g c =
    let ok = c.self.inside.slots.ok in
    none_left (λ (x : Ticket). x.stray) (c.self.inside.first + c.loop-at.at) refl c.self.invariant c.self.view_is c.loop-at.invariant (omega arith)
