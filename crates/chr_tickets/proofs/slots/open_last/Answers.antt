use Rattle.std.proofs.Common.{◌≡◌, Some, slice_index_or, ◌-◌, refl, sym, ap, ◌∙◌}
use Rattle.std.specs.Vec.{vec_len, with_item}
use Rattle.chr_tickets.proofs.slots.open_last.Goals as goal

pub returns : goal.returns
returns g c =
    let items = c.args.slots.now.items in
    let place : c.len-last.result - 1 ≡ vec_len c.args.slots.now - 1 = ap (λ n. n - 1) c.len-last.ensures in (
      (refl, λ w. ap (λ k. with_item c.args.slots.now k (Some w)) place),
      record {
        lends = tt;
        value = sym c.open_in.ensures.value ∙ c.index_mut.ensures.value ∙ ap (λ k. slice_index_or items k c.index_mut.result.now) place ∙ ap (slice_index_or items (vec_len c.args.slots.now - 1)) c.open_in.ensures.value;
      },
    )
