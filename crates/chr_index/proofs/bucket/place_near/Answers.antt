use Rattle.std.proofs.Common.{◌≡◌, ◌∙◌, Some, slice_get, sym, ap, arith}
use Rattle.chr_index.proofs.Slots.{front_near, later_near, later_first}
use Rattle.chr_index.proofs.Slots.{get_there}
use Rattle.chr_index.proofs.bucket.place_near.Goals as goal

pub returns-then-found-label-clause-front : goal.returns-then-found-label-clause-front
returns-then-found-label-clause-front c =
    front_near c.args.slots.now c.args.near c.args.label c.in-Some.slot.now c.requires (get_there c.args.slots.now c.args.near c.in-Some.slot.now c.in-Some.ensures.lookup.0 c.in-Some.ensures.lookup.1) (sym c.from-found.ensures ∙ c.if-found-label.true)

pub returns-then-found-label-clause-later : goal.returns-then-found-label-clause-later
returns-then-found-label-clause-later c =
    later_near c.args.slots.now c.args.near c.args.label c.in-Some.slot.now c.requires (get_there c.args.slots.now c.args.near c.in-Some.slot.now c.in-Some.ensures.lookup.0 c.in-Some.ensures.lookup.1) (sym c.from-found.ensures ∙ c.if-found-label.true)

pub returns-then-label-found-clause-later : goal.returns-then-label-found-clause-later
returns-then-label-found-clause-later c =
    let first : slice_get c.args.slots.now 0 ≡ Some c.in-Some.slot.now = ap (slice_get c.args.slots.now) (sym c.if-near-eq0.true) ∙ (get_there c.args.slots.now c.args.near c.in-Some.slot.now c.in-Some.ensures.lookup.0 c.in-Some.ensures.lookup.1) in
    later_first c.args.slots.now c.args.label c.in-Some.slot.now c.requires first (omega (arith, c.from-found.ensures, c.if-label-found.true))
