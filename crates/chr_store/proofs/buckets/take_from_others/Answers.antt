use Rattle.chr_index.specs.Buckets.{drop_number}
use Rattle.chr_store.proofs.Keeping.{other_put}
use Rattle.chr_store.proofs.buckets.take_from_others.Goals as goal

pub returns : goal.returns
returns g c = other_put (drop_number c.args.label) c.args.others.now c.take.new.self c.args.pred c.other_key.result c.other_key.ensures.key c.other_key.ensures.few c.take.ensures
