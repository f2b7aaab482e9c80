use Rattle.std.proofs.Common.{ℕ, ◌+◌, ◌++◌, ◌∷◌, [], List, length, refl, ◌∙◌, arith}
use Rattle.std.proofs.lemmas.Result.{err_from_is_err_and}
use Rattle.chr_store.specs.Index.{own_key}
use Rattle.chr_store.proofs.Keeping.{chosen_some, chosen_none}
use Rattle.chr_store.proofs.Stored.{touched_more, touched_same, touched_own, touched_rest, touched_stayed}
use Rattle.chr_store.proofs.buckets.enter.Goals as goal
use Rattle.chr_store.proofs.buckets.enter.Goals.{in-Some+in_ok-put_at, in_default}

pub put_own-requires-clause-below : goal.put_own-requires-clause-below
put_own-requires-clause-below g c = c.requires.below (own_key c.pred-pred.result)

pub loop-place-preserved : goal.loop-place-preserved
loop-place-preserved g c =
    let old = c.args.buckets.now in
    elim c.match-number.branch [
      | in-Some+in_ok-put_at w ↦ rw w.buckets-is (record {
        changed = touched_more (λ (ms : List ℕ). ms ++ c.args.label ∷ []) old.places c.args.atom.now c.loop-place.place c.pred-pred.result w.key_at.result old c.loop-place.buckets w.put_at.new.buckets c.pred-pred.ensures.name c.pred-pred.ensures.arity (chosen_some old.places c.loop-place.buckets.places c.pred-pred.result c.loop-place.place _ c.number.result c.loop-place.invariant.places c.number.ensures w.in-Some.is).1 w.key_at.ensures c.loop-place.invariant.changed w.in_ok-put_at.ensures.ok;
        places = w.put_at.ensures.places ∙ c.loop-place.invariant.places;
      })
      | in_default w ↦ rw w.buckets-is (record {
        changed = touched_same (λ (ms : List ℕ). ms ++ c.args.label ∷ []) old.places c.args.atom.now c.loop-place.place c.pred-pred.result old c.loop-place.buckets c.pred-pred.ensures.name c.pred-pred.ensures.arity (chosen_none old.places c.loop-place.buckets.places c.pred-pred.result c.loop-place.place c.number.result (omega (arith, c.loop-place.auto.place)) c.loop-place.invariant.places c.number.ensures w.in_default.is) c.loop-place.invariant.changed;
        places = c.loop-place.invariant.places;
      })
    ]

pub loop-place-init : goal.loop-place-init
loop-place-init g c = record {
  changed = touched_own (λ (ms : List ℕ). ms ++ c.args.label ∷ []) c.args.buckets.now.places c.args.atom.now c.pred-pred.result _ c.args.buckets.now c.put_own.new.buckets c.pred-pred.ensures.name c.pred-pred.ensures.arity refl c.in_ok-put_own.ensures.ok;
  places = c.put_own.ensures.places;
}

pub returns-then-not-may_have-clause-ok : goal.returns-then-not-may_have-clause-ok
returns-then-not-may_have-clause-ok g c =
    touched_rest (λ (ms : List ℕ). ms ++ c.args.label ∷ []) c.args.buckets.now.places c.args.atom.now c.pred-pred.result c.args.buckets.now c.put_own.new.buckets c.pred-pred.ensures.name c.pred-pred.ensures.arity (rw c.put_own.ensures.places at c.may_have.ensures c.if-not-may_have.true) (length c.args.atom.now.args) (length c.args.atom.now.args + 1) refl
    (touched_own (λ (ms : List ℕ). ms ++ c.args.label ∷ []) c.args.buckets.now.places c.args.atom.now c.pred-pred.result _ c.args.buckets.now c.put_own.new.buckets c.pred-pred.ensures.name c.pred-pred.ensures.arity refl c.in_ok-put_own.ensures.ok)

pub returns-in_err-put_own-clause-part : goal.returns-in_err-put_own-clause-part
returns-in_err-put_own-clause-part g c =
    rw (err_from_is_err_and c.from_residual.result c.from_residual.ensures.1).1 (0, touched_stayed (λ (ms : List ℕ). ms ++ c.args.label ∷ []) c.args.buckets.now.places c.args.atom.now c.args.buckets.now c.put_own.new.buckets c.in_err-put_own.ensures.unchanged)

pub returns-in_err-put_at-clause-part : goal.returns-in_err-put_at-clause-part
returns-in_err-put_at-clause-part g c =
    rw (err_from_is_err_and c.from_residual-in_err-put_at.result c.from_residual-in_err-put_at.ensures.1).1 (c.loop-place.place, λ k. c.in_err-put_at.ensures.unchanged k ∙ c.loop-place.invariant.changed k)
