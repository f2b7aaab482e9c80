use Rattle.std.proofs.Common.{◌+◌, length, refl, ◌∙◌, arith}
use Rattle.chr_index.specs.Buckets.{drop_number}
use Rattle.chr_store.proofs.Keeping.{chosen_some, chosen_none}
use Rattle.chr_store.proofs.Stored.{touched_more, touched_same, touched_own, touched_rest}
use Rattle.chr_store.proofs.buckets.leave.Goals as goal
use Rattle.chr_store.proofs.buckets.leave.Goals.{in-Some, in_default}

pub loop-place-preserved : goal.loop-place-preserved
loop-place-preserved g c =
    let old = c.args.buckets.now in
    elim c.match-number.branch [
      | in-Some w ↦ rw w.buckets-is (record {
        changed = touched_more (drop_number c.args.label) old.places c.args.atom.now c.loop-place.place c.pred-pred.result w.key_at.result old c.loop-place.buckets w.take_at.new.buckets c.pred-pred.ensures.name c.pred-pred.ensures.arity (chosen_some old.places c.loop-place.buckets.places c.pred-pred.result c.loop-place.place _ c.number.result c.loop-place.invariant.places c.number.ensures w.in-Some.is).1 w.key_at.ensures c.loop-place.invariant.changed w.take_at.ensures.labels;
        places = w.take_at.ensures.places ∙ c.loop-place.invariant.places;
      })
      | in_default w ↦ rw w.buckets-is (record {
        changed = touched_same (drop_number c.args.label) old.places c.args.atom.now c.loop-place.place c.pred-pred.result old c.loop-place.buckets c.pred-pred.ensures.name c.pred-pred.ensures.arity (chosen_none old.places c.loop-place.buckets.places c.pred-pred.result c.loop-place.place c.number.result (omega (arith, c.loop-place.auto.place)) c.loop-place.invariant.places c.number.ensures w.in_default.is) c.loop-place.invariant.changed;
        places = c.loop-place.invariant.places;
      })
    ]

pub loop-place-init : goal.loop-place-init
loop-place-init g c = record {
  changed = touched_own (drop_number c.args.label) c.args.buckets.now.places c.args.atom.now c.pred-pred.result _ c.args.buckets.now c.take_own.new.buckets c.pred-pred.ensures.name c.pred-pred.ensures.arity refl c.take_own.ensures.labels;
  places = c.take_own.ensures.places;
}

pub returns-then-not-may_have-clause-changed : goal.returns-then-not-may_have-clause-changed
returns-then-not-may_have-clause-changed g c =
    touched_rest (drop_number c.args.label) c.args.buckets.now.places c.args.atom.now c.pred-pred.result c.args.buckets.now c.take_own.new.buckets c.pred-pred.ensures.name c.pred-pred.ensures.arity (rw c.take_own.ensures.places at c.may_have.ensures c.if-not-may_have.true) (length c.args.atom.now.args) (length c.args.atom.now.args + 1) refl
    (touched_own (drop_number c.args.label) c.args.buckets.now.places c.args.atom.now c.pred-pred.result _ c.args.buckets.now c.take_own.new.buckets c.pred-pred.ensures.name c.pred-pred.ensures.arity refl c.take_own.ensures.labels)
