use Rattle.std.proofs.Common.{◌+◌, List, drop, ap, sym, subst, ◌∙◌}
use Rattle.chr_tickets.specs.Listed.{Slot, listed, AreSlots}
use Rattle.chr_tickets.proofs.Ends.{Cut, taken, slots_take}
use Rattle.chr_tickets.proofs.tickets.Tickets.truncate.Goals as goal

pub invariant_of-self : goal.invariant_of-self
invariant_of-self g c =
    let cut : Cut c.self.inside.first c.self.inside.gone c.args.next c.saturating_sub-kept.result c.min-self-inside-2.result c.min-self-inside.result = record { k_is = c.saturating_sub-kept.ensures; start_is = c.min-self-inside-2.ensures; left_is = c.min-self-inside.ensures } in
    subst (λ (slots : List (Slot g.row.A.Denot)). AreSlots c.min-self-inside-2.result c.min-self-inside.result slots c.self.inside.unmarked) (sym c.truncate.ensures.items) (slots_take cut c.self.invariant c.requires)

pub returns : goal.returns
returns g c =
    let cut : Cut c.self.inside.first c.self.inside.gone c.args.next c.saturating_sub-kept.result c.min-self-inside-2.result c.min-self-inside.result = record { k_is = c.saturating_sub-kept.ensures; start_is = c.min-self-inside-2.ensures; left_is = c.min-self-inside.ensures } in
    ap (λ (slots : List (Slot g.row.A.Denot)). listed (c.min-self-inside-2.result + c.min-self-inside.result) (drop c.min-self-inside.result slots)) c.truncate.ensures.items
    ∙ taken c.self.inside.slots.items cut c.self.view_is
