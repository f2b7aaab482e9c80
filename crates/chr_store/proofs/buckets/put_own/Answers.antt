use Rattle.std.proofs.Common.{ℕ, List, ◌++◌, ◌∷◌, [], refl, sym, ◌∙◌}
use Rattle.std.proofs.lemmas.Result.{on_ok_weaker, on_err_weaker}
use Rattle.chr_store.proofs.Keeping.{others_put, labels_same}
use Rattle.chr_store.proofs.buckets.put_own.Goals as goal

pub returns-in-None-clause-ok : goal.returns-in-None-clause-ok
returns-in-None-clause-ok g c =
    on_ok_weaker c.put_in_others.result (λ set. others_put c.args.buckets.now (record c.args.buckets.now { others = c.put_in_others.new.others }) refl refl (λ (ms : List ℕ). ms ++ c.args.label ∷ []) c.args.pred (sym c.row_of.ensures.row ∙ c.in-None.is) set (λ n v. refl)) c.put_in_others.ensures.ok

pub returns-in-None-clause-unchanged : goal.returns-in-None-clause-unchanged
returns-in-None-clause-unchanged g c =
    on_err_weaker c.put_in_others.result (λ same. labels_same c.args.buckets.now (record c.args.buckets.now { others = c.put_in_others.new.others }) refl refl same (λ n v. refl)) c.put_in_others.ensures.unchanged
