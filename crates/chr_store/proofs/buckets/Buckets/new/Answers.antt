use Rattle.chr_store.proofs.Keeping.{none_labels}
use Rattle.chr_store.proofs.buckets.Buckets.new.Goals as goal

pub returns-clause-none : goal.returns-clause-none
returns-clause-none g c = none_labels (record { places = c.args.places; rows = c.new.result; others = c.new-2.result; indexes = c.new-3.result }) c.new.ensures c.new-2.ensures c.new-3.ensures.items
