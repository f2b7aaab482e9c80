use Rattle.std.proofs.Common.{◌+◌, ◌<◌, length, map, refl, sym, ap, subst, ◌∙◌, arith}
use Rattle.std.proofs.lemmas.List.{take_all}
use Rattle.chr_log.specs.Events.{events_of}
use Rattle.chr_causes.specs.declared.causes.Cause.{Cause}
use Rattle.chr_causes.specs.Origins.{IsOrigin}
use Rattle.chr_causes.specs.Marks.{AreMarks}
use Rattle.chr_causes.proofs.Marked.{origin_read, label_of, marked, AllStand, labels_push, labels_pass, origins_push, marked_all}
use Rattle.chr_causes.proofs.causes.causes.Goals as goal
use Rattle.chr_causes.proofs.causes.causes.Goals.{then-label-eq0-via-then-label-eq0, then-label-eq0-via-else-label-eq0+then-label-len, then-is_cause+in_ok-push, else-is_cause}

pub returns-then-label-eq0 : goal.returns-then-label-eq0
returns-then-label-eq0 g c = λ gives.
    let bounds = c.in_ok-origins.ensures.all c.args.label gives in
    elim c.then-label-eq0.branch [
      | then-label-eq0-via-then-label-eq0 w ↦ absurd (omega (arith, bounds.0, w.if-label-eq0.true))
      | then-label-eq0-via-else-label-eq0+then-label-len w ↦ absurd (omega (arith, bounds.1, w.if-label-len.true, w.len.ensures, c.in_ok-origins.origins.ok.0))
    ]

pub loop-place-init : goal.loop-place-init
loop-place-init g c = record {
  labels = ap (map label_of) c.new-list.ensures.items;
  origins = subst (AllStand c.args.program.now (events_of c.args.events.now)) (sym c.new-list.ensures.items) tt;
}

pub loop-place-preserved : goal.loop-place-preserved
loop-place-preserved g c =
    let rules = c.args.program.now in
    let log = events_of c.args.events.now in
    let place = c.loop-place.place in
    let marks = c.deref-is_cause-items.result.now in
    let inv = c.loop-place.invariant in
    let old = c.loop-place.list.items in
    elim c.if-is_cause.branch [
      | then-is_cause+in_ok-push w ↦
          let origin = w.index.result.now in
          let cause : Cause = record { label = place + 1; origin = origin } in
          let more = ap (λ v. v.items) w.list-is ∙ w.in_ok-push.ensures.items in
          let many = c.in_ok-marks.ensures.places in
          let lt : place < length c.in_ok-origins.origins.items = omega (arith, c.if-label-len.false, c.len.ensures, c.in_ok-origins.origins.ok.0, many, ap length c.deref-is_cause-items.ensures.value, c.loop-place-test.true) in
          let from : IsOrigin rules log (place + 1) origin = subst (IsOrigin rules log (place + 1)) (sym w.index.ensures) (origin_read rules log c.in_ok-origins.origins.items place origin c.in_ok-origins.ensures lt) in
          record {
            labels = labels_push marks place old c.if-is_cause.list.items cause c.loop-place-test.true w.if-is_cause.true refl more inv.labels;
            origins = origins_push rules log old c.if-is_cause.list.items cause more from inv.origins;
          }
      | else-is_cause w ↦
          let same = ap (λ v. v.items) w.list-is in
          record {
            labels = ap (map label_of) same ∙ labels_pass marks place old c.loop-place-test.true w.if-is_cause.false inv.labels;
            origins = subst (AllStand rules log) (sym same) inv.origins;
          }
    ]

pub returns : goal.returns
returns g c =
    let rules = c.args.program.now in
    let log = events_of c.args.events.now in
    let marks = c.deref-is_cause-items.result.now in
    let list = c.loop-place.list.items in
    marked_all rules log c.args.label marks list
    (subst (AreMarks rules log c.args.label) (sym c.deref-is_cause-items.ensures.value) c.in_ok-marks.ensures)
    (c.loop-place.invariant.labels ∙ ap (marked 1) (take_all c.loop-place.place marks c.loop-place-test.false))
    c.loop-place.invariant.origins
