use Rattle.std.proofs.Common.{ℕ, List, ◌++◌, ◌∷◌, []}
use Rattle.std.proofs.lemmas.Result.{on_ok_weaker, on_err_weaker}
use Rattle.chr_store.proofs.Keeping.{other_put, other_same}
use Rattle.chr_store.proofs.buckets.put_in_others.Goals as goal

pub returns-clause-ok : goal.returns-clause-ok
returns-clause-ok g c = on_ok_weaker c.put.result (other_put (λ (ms : List ℕ). ms ++ c.args.label ∷ []) c.args.others.now c.put.new.self c.args.pred c.other_key.result c.other_key.ensures.key c.other_key.ensures.few) c.put.ensures.ok

pub returns-clause-unchanged : goal.returns-clause-unchanged
returns-clause-unchanged g c = on_err_weaker c.put.result (other_same c.args.others.now c.put.new.self) c.put.ensures.unchanged
