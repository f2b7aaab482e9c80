use Rattle.std.proofs.Common.{ap, sym, subst, ◌∙◌, List}
use Rattle.chr_tickets.specs.Listed.{Slot, listed, AreSlots}
use Rattle.chr_tickets.proofs.Ends.{listed_none, slots_none}
use Rattle.chr_tickets.proofs.tickets.Tickets.new.Goals as goal

pub invariant_of-result : goal.invariant_of-result
invariant_of-result g c = subst (λ (slots : List (Slot g.row.A.Denot)). AreSlots 1 0 slots 18446744073709551615) (sym c.new.ensures.items) (slots_none 18446744073709551615)

pub returns : goal.returns
returns g c = ap (listed 1) c.new.ensures.items ∙ listed_none g.row.A.Denot
