use Rattle.std.proofs.Common.{ℕ, ◌<◌, List, ◌++◌, ◌∷◌, [], subst}
use Rattle.std.specs.List.{AllByRecursion}
use Rattle.std.proofs.lemmas.Result.{on_ok_weaker, on_err_weaker}
use Rattle.chr_store.proofs.Keeping.{grown_labels, grown_put, grown_same}
use Rattle.chr_store.proofs.buckets.put_in_index.Goals as goal

pub put-requires-clause-below : goal.put-requires-clause-below
put-requires-clause-below g c =
    rw c.index_mut.ensures.value (subst (AllByRecursion (λ (m : ℕ). m < c.args.label)) (grown_labels (λ (ms : List ℕ). ms) c.args.indexes.now.items c.make_index.new.indexes.items c.args.number _ c.index_mut.result.now c.args.key.now.value c.in_index.result c.make_index.ensures.same c.in_index.ensures.key c.in_ok-make_index.ensures.made c.in_index.ensures.word) c.requires.below)

pub returns-clause-ok : goal.returns-clause-ok
returns-clause-ok g c =
    on_ok_weaker c.put.result (grown_put (λ (ms : List ℕ). ms ++ c.args.label ∷ []) c.args.indexes.now.items c.make_index.new.indexes.items c.args.number _ c.put.new.self c.args.key.now.value c.in_index.result c.make_index.ensures.same c.in_index.ensures.key c.in_ok-make_index.ensures.made c.in_index.ensures.word) (rw c.index_mut.ensures.value at c.put.ensures.ok)

pub returns-clause-unchanged : goal.returns-clause-unchanged
returns-clause-unchanged g c =
    on_err_weaker c.put.result (grown_same (λ (ms : List ℕ). ms) c.args.indexes.now.items c.make_index.new.indexes.items c.args.number _ c.put.new.self c.args.key.now.value c.in_index.result c.make_index.ensures.same c.in_index.ensures.key c.in_ok-make_index.ensures.made c.in_index.ensures.word) (rw c.index_mut.ensures.value at c.put.ensures.unchanged)
