use Rattle.std.proofs.Common.{ℕ, List, ◌++◌, ◌∷◌, [], refl}
use Rattle.std.proofs.lemmas.Result.{on_ok_weaker, on_err_weaker}
use Rattle.chr_store.proofs.Keeping.{place_put, labels_same}
use Rattle.chr_store.proofs.buckets.put_at.Goals as goal

pub returns-clause-ok : goal.returns-clause-ok
returns-clause-ok g c =
    on_ok_weaker c.put_in_index.result (λ set. place_put c.args.buckets.now (record c.args.buckets.now { indexes = c.put_in_index.new.indexes }) refl refl (λ (ms : List ℕ). ms ++ c.args.label ∷ []) c.args.key.now c.args.number c.requires.there (λ p. refl) set) c.put_in_index.ensures.ok

pub returns-clause-unchanged : goal.returns-clause-unchanged
returns-clause-unchanged g c =
    on_err_weaker c.put_in_index.result (λ same. labels_same c.args.buckets.now (record c.args.buckets.now { indexes = c.put_in_index.new.indexes }) refl refl (λ p. refl) same) c.put_in_index.ensures.unchanged
