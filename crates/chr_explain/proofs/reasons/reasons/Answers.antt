use Rattle.std.proofs.Common.{refl, arith, ◌∙◌, le_of_lt}
use Rattle.chr_log.specs.Events.{event_of, events_of}
use Rattle.chr_causes.proofs.Tracing.{event_read}
use Rattle.chr_explain.proofs.ExplainedTexts.{label_from_one, label_within, entry_within, causes_more, reasons_more}
use Rattle.std.proofs.lemmas.List.{take_all}
use Rattle.chr_explain.proofs.reasons.reasons.Goals as goal

pub overflow_sub-cause : goal.overflow_sub-cause
overflow_sub-cause g c = label_from_one c.args.program.now c.args.causes.now c.loop-cause.cause-index _ c.loop-cause-test.true (events_of c.args.events.now) c.args.atoms.now c.requires.atoms c.requires.origins

pub offset_bounds-atoms-cause : goal.offset_bounds-atoms-cause
offset_bounds-atoms-cause g c = omega (arith, label_within c.args.program.now c.args.causes.now c.loop-cause.cause-index (record { label = 0; origin = record { activated = 0; made = 0; nth = 0 } }) c.loop-cause-test.true (events_of c.args.events.now) c.args.atoms.now c.requires.atoms c.requires.origins)

pub bounds-atoms-cause : goal.bounds-atoms-cause
bounds-atoms-cause g c = label_within c.args.program.now c.args.causes.now c.loop-cause.cause-index _ c.loop-cause-test.true (events_of c.args.events.now) c.args.atoms.now c.requires.atoms c.requires.origins

pub loop-cause-preserved : goal.loop-cause-preserved
loop-cause-preserved g c =
    let rules = c.args.program.now in
    let log = events_of c.args.events.now in
    let i = c.loop-cause.cause-index in
    record {
      causes = causes_more c.args.causes.now i _ c.loop-cause.list.items c.push.new.self.items _ c.in_ok-push.ensures.items c.loop-cause-test.true refl c.loop-cause.invariant.causes;
      each = λ gone has. reasons_more c.args.causes.now i _ c.loop-cause.list.items c.push.new.self.items _ c.in_ok-push.ensures.items c.loop-cause-test.true refl
          rules log c.args.atoms.now c.args.removals.now (event_of c.index-events-cause.result)
          (event_read c.args.events.now _ c.index-events-cause.result (entry_within rules c.args.causes.now i _ c.loop-cause-test.true c.args.events.now c.requires.origins) c.index-events-cause.is)
          c.index-atoms-cause.is
          (label_within rules c.args.causes.now i _ c.loop-cause-test.true log c.args.atoms.now c.requires.atoms c.requires.origins)
          c.in_ok-values.ensures c.removal.ensures gone has (c.loop-cause.invariant.each gone has);
    }

pub offset_bounds-events-cause : goal.offset_bounds-events-cause
offset_bounds-events-cause g c = le_of_lt (entry_within c.args.program.now c.args.causes.now c.loop-cause.cause-index _ c.loop-cause-test.true c.args.events.now c.requires.origins)

pub bounds-events-cause : goal.bounds-events-cause
bounds-events-cause g c = entry_within c.args.program.now c.args.causes.now c.loop-cause.cause-index _ c.loop-cause-test.true c.args.events.now c.requires.origins

pub returns-clause-causes : goal.returns-clause-causes
returns-clause-causes g c = c.loop-cause.invariant.causes ∙ take_all c.loop-cause.cause-index c.args.causes.now c.loop-cause-test.false
