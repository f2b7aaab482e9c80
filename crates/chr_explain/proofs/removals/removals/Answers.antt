use Rattle.std.proofs.Common.{List, Option, ℕ, sym, subst, ◌∙◌, ◌+◌, ◌≡◌, None, le_of_eq, le_trans, replicate, rules, arith}
use Rattle.chr_log.specs.Events.{event_of, events_of, Event}
use Rattle.chr_causes.proofs.Tracing.{event_read}
use Rattle.chr_explain.specs.Reasons.{removed_of, AreRemovals, Marks}
use Rattle.std.proofs.Common.{take}
use Rattle.chr_explain.proofs.Lists.{removals_more, kept_back, none_removed}
use Rattle.std.proofs.lemmas.List.{take_all, length-map}
use Rattle.chr_explain.proofs.removals.removals.Goals as goal

pub loop-place-preserved : goal.loop-place-preserved
loop-place-preserved g c =
    let log = events_of c.args.events.now in
    let place = c.loop-place.place in
    let event = c.index-events-place.result in
    let there = event_read c.args.events.now place event c.loop-place-test.true c.index-events-place.is in
    let old = c.loop-place.list.items in
    let new = c.mark_removed.new.list in
    let marks : Marks (removed_of (event_of event)) place old new = subst (λ (xs : List (Option ℕ)). Marks (removed_of (event_of event)) place xs new) c.deref_mut.ensures.value c.mark_removed.ensures in
    subst (AreRemovals (take (place + 1) log) c.args.labels) (sym (kept_back new old c.loop-place.list.len (marks.places ∙ sym c.loop-place.list.ok.0)))
    (removals_more log place c.args.labels (event_of event) old new there c.loop-place.invariant marks)

pub loop-place-init : goal.loop-place-init
loop-place-init g c = none_removed c.args.labels c.in_ok-list.list.items (c.in_ok-list.ensures.items_if_clones_equal (search rules))

pub returns : goal.returns
returns g c =
    let log = events_of c.args.events.now in
    subst (λ (es : List (Event ℕ)). AreRemovals es c.args.labels c.loop-place.list.items) (take_all c.loop-place.place log (le_trans (le_of_eq (length-map c.args.events.now event_of)) c.loop-place-test.false)) c.loop-place.invariant
