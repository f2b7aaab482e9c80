use Rattle.std.proofs.Common.{refl, sym, ◌∙◌}
use Rattle.chr_index.specs.Buckets.{drop_number}
use Rattle.chr_store.proofs.Keeping.{others_put}
use Rattle.chr_store.proofs.buckets.take_own.Goals as goal

pub returns-in-None-clause-labels : goal.returns-in-None-clause-labels
returns-in-None-clause-labels g c =
    others_put c.args.buckets.now (record c.args.buckets.now { others = c.take_from_others.new.others }) refl refl (drop_number c.args.label) c.args.pred (sym c.row_of.ensures.row ∙ c.in-None.is) c.take_from_others.ensures (λ n v. refl)
