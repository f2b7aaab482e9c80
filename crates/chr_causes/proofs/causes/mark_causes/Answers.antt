use Rattle.std.proofs.Common.{◌≡◌, ◌+◌, ◌-◌, List, Bool, true, false, length, slice_set, slice_index_or, sym, ap, subst, ◌∙◌, arith}
use Rattle.std.proofs.lemmas.List.{take_at, get_or_read}
use Rattle.chr_log.specs.Events.{event_of, events_of}
use Rattle.chr_causes.specs.declared.origins.Origin.{Origin}
use Rattle.chr_causes.specs.Causes.{heads_of}
use Rattle.chr_causes.specs.Marks.{Adds}
use Rattle.chr_causes.proofs.Marked.{Traced, traced_first, made_within, heads_fit, heads_traced, traced_passed, traced_all}
use Rattle.chr_causes.proofs.causes.mark_causes.Goals as goal

abbrev no_origin : Origin
no_origin = record { activated = 0; made = 0; nth = 0 }

pub loop-place-init : goal.loop-place-init
loop-place-init g c =
    traced_first c.args.program.now (events_of c.args.events.now) c.args.label _ c.requires.label.0
    (ap (λ (bs : List Bool). slice_set bs (c.args.label - 1) true) (c.in_ok-marks.ensures.items_if_clones_equal (λ y h. h)))

pub bounds-events-origins : goal.bounds-events-origins
bounds-events-origins g c = made_within c.args.program.now c.args.events.now c.args.origins.now (c.loop-place.place - 1) no_origin c.requires.origins (omega arith)

pub offset_bounds-events-origins : goal.offset_bounds-events-origins
offset_bounds-events-origins g c =
    omega (arith, made_within c.args.program.now c.args.events.now c.args.origins.now (c.loop-place.place - 1) no_origin c.requires.origins (omega arith))

pub mark_heads-requires : goal.mark_heads-requires
mark_heads-requires g c =
    heads_fit c.args.program.now c.args.events.now c.requires.lawful c.args.label c.args.origins.now (c.loop-place.place - 1) no_origin c.index-events-origins.result c.requires.origins (omega arith) c.index-events-origins.is (length c.deref_mut.result.now)
    (omega (arith, ap length c.deref_mut.ensures.value, c.loop-place.invariant.places))

pub loop-place-preserved-then-index : goal.loop-place-preserved-then-index
loop-place-preserved-then-index g c =
    let rules = c.args.program.now in
    let log = events_of c.args.events.now in
    let p = c.loop-place.place - 1 in
    let event = c.index-events-origins.result in
    let place : c.loop-place.place ≡ p + 1 = omega arith in
    let old = c.loop-place.marks.items in
    let new = c.mark_heads.new.marks in
    let adds : Adds (heads_of (event_of event)) old new = subst (λ (bs : List Bool). Adds (heads_of (event_of event)) bs new) c.deref_mut.ensures.value c.mark_heads.ensures in
    let here : slice_index_or old p false ≡ true = sym (get_or_read old p c.index.result.now (omega (arith, c.loop-place.invariant.places)) c.index.ensures false) ∙ c.if-index.true in
    subst (Traced rules log c.args.label p) (sym (take_at new _ c.loop-place.marks.len (adds.places ∙ sym c.loop-place.marks.ok.0)))
    (heads_traced rules c.args.events.now c.requires.lawful c.args.label c.args.origins.now p no_origin event c.requires.origins (omega arith) c.index-events-origins.is old new here adds
    (subst (λ n. Traced rules log c.args.label n old) place c.loop-place.invariant))

pub loop-place-preserved : goal.loop-place-preserved
loop-place-preserved g c =
    let p = c.loop-place.place - 1 in
    let place : c.loop-place.place ≡ p + 1 = omega arith in
    let rules = c.args.program.now in
    let log = events_of c.args.events.now in
    traced_passed rules log c.args.label p c.loop-place.marks.items (sym (get_or_read c.loop-place.marks.items p c.index.result.now (omega (arith, c.loop-place.invariant.places)) c.index.ensures false) ∙ c.if-index.false)
    (subst (λ n. Traced rules log c.args.label n c.loop-place.marks.items) place c.loop-place.invariant)

pub returns : goal.returns
returns g c =
    let place : c.loop-place.place ≡ 0 = omega arith in
    traced_all c.args.program.now (events_of c.args.events.now) c.requires.lawful c.args.label c.requires.label.0 c.loop-place.marks.items
    (subst (λ n. Traced c.args.program.now (events_of c.args.events.now) c.args.label n c.loop-place.marks.items) place c.loop-place.invariant)
