use Rattle.std.proofs.Common.{subst, sym}
use Rattle.chr_store.specs.Labels.{GivenAtoms}
use Rattle.chr_store.specs.Indexed.{IsIndexed}
use Rattle.chr_store.proofs.Stored.{indexed_none}
use Rattle.chr_store.proofs.store.Store.new.Goals as goal

pub invariant_of-result : goal.invariant_of-result
invariant_of-result g c =
    subst (λ (z : GivenAtoms). IsIndexed (record { entries = z.entries; next = z.next; limit = c.args.limit }) c.new-3.result.places c.new-3.result) (sym c.new.ensures)
    (indexed_none c.args.limit c.new-3.result.places c.new-3.result c.requires c.new-3.ensures.none)
