use Rattle.std.proofs.Common.{refl}
use Rattle.chr_index.specs.Buckets.{drop_number}
use Rattle.chr_store.proofs.Keeping.{place_put}
use Rattle.chr_store.proofs.buckets.take_at.Goals as goal

pub returns-clause-labels : goal.returns-clause-labels
returns-clause-labels g c =
    place_put c.args.buckets.now (record c.args.buckets.now { indexes = c.take_from_index.new.indexes }) refl refl (drop_number c.args.label) c.args.key.now c.args.number c.requires (λ p. refl) c.take_from_index.ensures
