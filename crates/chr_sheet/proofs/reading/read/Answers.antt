use Rattle.std.proofs.Common.{◌∙◌, subst}
use Rattle.chr_sheet.proofs.Words.{arc_value, Space, older, NoneLeft, trials_at, trials_in, AreNextTogether}
use Rattle.chr_search.specs.Answers.{IsAnswer}
use Rattle.chr_sheet.proofs.NextBeside.{none_next, none_asked}
use Rattle.chr_sheet.proofs.Keeping.{read_on, read_all}
use Rattle.chr_sheet.proofs.reading.read.Goals as goal
use Rattle.chr_sheet.proofs.reading.read.Goals.{else-loop-left-test, then-loop-left-test+in_ok-first+in_default}

pub loop-left-preserved : goal.loop-left-preserved
loop-left-preserved g c =
    let s : Space = older (arc_value c.args.program.now) c.args.plans.now c.args.store.now.entries c.args.search.now.label in
    let ts = trials_at c.in_ok-trials.trials in
    record {
      label = c.in_ok-trials.ensures.label ∙ c.loop-left.invariant.label;
      next = read_on s c.args.most c.args.search.now.place c.loop-left.left c.loop-left.ahead.place c.with_those_beside.new.search.place c.len-left.result c.loop-left.sheet.items c.push_with_room.new.list.items c.in_ok-trials.trials c.loop-left.invariant.next
          (subst (λ rules. AreNextTogether (older rules c.args.plans.now c.args.store.now.entries c.args.search.now.label) c.loop-left.left c.loop-left.ahead.place ts c.with_those_beside.new.search.place) c.deref.ensures
          (subst (λ l. AreNextTogether (older c.deref.result.now c.args.plans.now c.args.store.now.entries l) c.loop-left.left c.loop-left.ahead.place ts c.with_those_beside.new.search.place) c.loop-left.invariant.label c.in_ok-trials.ensures.trials))
          c.len-left.ensures.count c.in_ok-push_with_room.ensures;
    }

pub returns : goal.returns
returns g c =
    let s : Space = older (arc_value c.args.program.now) c.args.plans.now c.args.store.now.entries c.args.search.now.label in
    read_all s c.args.most c.args.search.now.place c.loop-left.left c.loop-left.ahead.place (trials_in c.loop-left.sheet.items) c.loop-left.invariant.next (elim c.loop-left-test.branch [
      | else-loop-left-test w ↦ none_asked s c.loop-left.left c.loop-left.ahead.place w.loop-left-test.false
      | then-loop-left-test+in_ok-first+in_default w ↦
          none_next s c.loop-left.left c.loop-left.ahead.place
          (subst (λ rules. NoneLeft (older rules c.args.plans.now c.args.store.now.entries c.args.search.now.label) c.loop-left.ahead.place) c.deref.ensures
          (subst (λ l. NoneLeft (older c.deref.result.now c.args.plans.now c.args.store.now.entries l) c.loop-left.ahead.place) c.loop-left.invariant.label
          (subst (IsAnswer (older c.deref.result.now c.args.plans.now c.args.store.now.entries c.loop-left.ahead.label) c.loop-left.ahead.place) w.in_default.is w.in_ok-first.ensures)))
    ])
