use Rattle.std.proofs.Common.{ℕ, List, Some, None, subst, arith}
use Rattle.chr_index.specs.Buckets.{IsLeastBetween}
use Rattle.chr_index.proofs.Slots.{IsSought, least_none, least_some, least_past, get_none}
use Rattle.chr_index.proofs.Slots.{get_there}
use Rattle.chr_index.proofs.bucket.Run.next_at.Goals as goal

pub returns-in_default-clause-least : goal.returns-in_default-clause-least
returns-in_default-clause-least c =
    let ss = c.self.inside.slots.now in
    let from = c.place_near-from in
    let place = c.first_live-place in
    let sought : IsSought ss c.args.after from.result place.result = record { rising = c.self.invariant.rising; front = from.ensures.front; later = from.ensures.later; skipped = place.ensures.rest; live = place.ensures.live } in
    subst (λ (ms : List ℕ). IsLeastBetween ms c.args.after c.args.below None) c.self.view_is
    (least_none ss c.args.after c.args.below from.result place.result sought (get_none ss place.result c.in_default.ensures.lookup.0))

pub returns-then-label-below-clause-least : goal.returns-then-label-below-clause-least
returns-then-label-below-clause-least c =
    let ss = c.self.inside.slots.now in
    let from = c.place_near-from in
    let place = c.first_live-place in
    let sought : IsSought ss c.args.after from.result place.result = record { rising = c.self.invariant.rising; front = from.ensures.front; later = from.ensures.later; skipped = place.ensures.rest; live = place.ensures.live } in
    subst (λ (ms : List ℕ). IsLeastBetween ms c.args.after c.args.below (Some c.from-label.result)) c.self.view_is
    (rw c.from-label.ensures (least_some ss c.args.after c.args.below from.result place.result c.in-Some.slot.now sought (get_there ss place.result c.in-Some.slot.now c.in-Some.ensures.lookup.0 c.in-Some.ensures.lookup.1) (omega (arith, c.from-label.ensures, c.if-label-below.true))))

pub returns-else-label-below-clause-least : goal.returns-else-label-below-clause-least
returns-else-label-below-clause-least c =
    let ss = c.self.inside.slots.now in
    let from = c.place_near-from in
    let place = c.first_live-place in
    let sought : IsSought ss c.args.after from.result place.result = record { rising = c.self.invariant.rising; front = from.ensures.front; later = from.ensures.later; skipped = place.ensures.rest; live = place.ensures.live } in
    subst (λ (ms : List ℕ). IsLeastBetween ms c.args.after c.args.below None) c.self.view_is
    (least_past ss c.args.after c.args.below from.result place.result c.in-Some.slot.now sought (get_there ss place.result c.in-Some.slot.now c.in-Some.ensures.lookup.0 c.in-Some.ensures.lookup.1) (omega (arith, c.from-label.ensures, c.if-label-below.false)))
