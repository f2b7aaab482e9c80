use Rattle.std.proofs.Common.{Some, slice_index_or, ◌-◌, refl, sym, ap, ◌∙◌}
use Rattle.std.specs.Vec.{with_item}
use Rattle.chr_tickets.proofs.Changes.{only_place}
use Rattle.chr_tickets.proofs.slots.open_at.Goals as goal

pub returns : goal.returns
returns g c =
    let items = c.args.slots.now.items in
    let place = only_place c.requires c.ranges.ticket.fits c.place_of.ensures c.place_of.type_inv in (
      (refl, λ w. ap (λ k. with_item c.args.slots.now k (Some w)) place),
      record {
        lends = tt;
        value = sym c.open_in.ensures.value ∙ c.index_mut.ensures.value ∙ ap (λ k. slice_index_or items k c.index_mut.result.now) place ∙ ap (slice_index_or items (c.args.ticket - c.args.first)) c.open_in.ensures.value;
      },
    )
